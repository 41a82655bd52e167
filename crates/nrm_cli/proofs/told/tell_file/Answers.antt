-- It is told of the network that was opened, or why there is no network.
use Rattle.std.proofs.Common.{ℕ, ◌≡◌, List, Option, Ok, refl, subst, sym}
use Rattle.nrm_edge.specs.Fetch.{Folder}
use Rattle.nrm_common_cli.specs.Outside.{OnFile}
use Rattle.nrm_common_cli.specs.Refusals.{network_under}
use Rattle.nrm_cli.specs.Inner.Does.{DoesBeside, FilesAndSink}
use Rattle.nrm_cli.specs.Jobs.{Job, telling_of}
use Rattle.nrm_cli.specs.declared.status.Status.{Status}
use Rattle.nrm_cli.proofs.NoNetworkEnds.{without-opened}
use Rattle.nrm_cli.proofs.told.tell_file.Goals as goal

-- what was done over the same files, whose count had not risen, was done from the start
from-the-start : (job : Job) (files files' : Option Folder) (held : Option (List ℕ)) (count count' sunk : ℕ) (after : FilesAndSink) (s : Status)
    → files' ≡ files → count' ≡ count
    → DoesBeside job (record { files = files'; held = held; file_faults = count'; sink_faults = sunk }) after s
    → DoesBeside job (record { files = files; held = held; file_faults = count; sink_faults = sunk }) after s
from-the-start job files files' held count count' sunk after s stays same does =
    subst (λ (f : Option Folder). DoesBeside job (record { files = f; held = held; file_faults = count; sink_faults = sunk }) after s) stays
    (subst (λ (n : ℕ). DoesBeside job (record { files = files'; held = held; file_faults = n; sink_faults = sunk }) after s) same does)

pub returns-in-Ok-clause-does : goal.returns-in-Ok-clause-does
returns-in-Ok-clause-does g c =
    let name = c.args.name.now in
    let (is, same) = c.in-Ok.ensures.network in
    let opens = rw is at c.open_network.ensures.opens in
    let counts = rw is at c.open_network.ensures.counts in
    let stays = c.open_network.ensures.stays in
    let on = subst (λ (f : Option Folder). OnFile f name (λ contents. network_under contents ≡ Ok c.in-Ok.net)) (sym stays) opens in
    let does = rw same at c.tell.ensures.does in
    from-the-start (telling_of name c.args.telling.now) _ _ _ _ _ _ _ c.tell.result stays counts (does name on)

pub returns-in-Err-clause-does : goal.returns-in-Err-clause-does
returns-in-Err-clause-does g c coming faults =
    let opened = c.open_network.ensures in
    let name = c.args.name.now in
    without-opened (telling_of name c.args.telling.now) name tt (λ files refusal on. on) _ _ c.open_network.result c.in-Err.told
    opened.opens opened.counts opened.stays c.in-Err.ensures.told refl refl c.network_or_told.ensures.later
