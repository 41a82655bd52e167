-- The stream is answered from the opening of the network, or it is put why there is none.
use Rattle.std.proofs.Common.{refl}
use Rattle.nrm_cli.specs.Jobs.{run_file as run_job}
use Rattle.nrm_cli.proofs.RunEnds.{served-does}
use Rattle.nrm_cli.proofs.NoNetworkEnds.{without-opened}
use Rattle.nrm_cli.proofs.served.run_file.Goals as goal

pub returns-in-Ok-clause-does : goal.returns-in-Ok-clause-does
returns-in-Ok-clause-does g c =
    let (is, same) = c.in-Ok.ensures.network in
    let opens = rw is at c.open_network.ensures.opens in
    let counts = rw is at c.open_network.ensures.counts in
    let serves = rw same at c.serve_network.ensures.serves in
    served-does c.args.mode c.args.name.now c.in-Ok.net _ _ (refl, opens) c.open_network.ensures.stays counts c.serve_network.result serves

pub returns-in-Err-clause-does : goal.returns-in-Err-clause-does
returns-in-Err-clause-does g c =
    let opened = c.open_network.ensures in
    without-opened (run_job c.args.mode c.args.name.now) c.args.name.now tt (λ files refusal on. on) _ _ c.open_network.result c.in-Err.told
    opened.opens opened.counts opened.stays c.in-Err.ensures.told refl refl c.network_or_told.ensures.later
