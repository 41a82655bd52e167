use Rattle.std.proofs.Common.{◌≡◌, Option, Some, None, ap, arith, option_map, refl, subst, sym}
use Rattle.nrm_common_cli.specs.Outside.{Outside}
use Rattle.nrm_cli.specs.Inner.Does.{Does}
use Rattle.nrm_cli.specs.Jobs.{job_in, usage_line}
use Rattle.nrm_cli.specs.Tells.{usage}
use Rattle.nrm_cli.specs.declared.status.Status.{Status}
use Rattle.nrm_cli.specs.declared.status.Status.TheVariants as status
use Rattle.nrm_cli.specs.declared.words.Asked.{Asked}
use Rattle.nrm_cli.proofs.ToldEnds.{told-counts, told-ends}
use Rattle.nrm_cli.proofs.words.run_asked.Goals as goal

-- what holds of a job holds of the words that ask for it
of-words : (asked known : Option Asked) (before after : Outside) (s : Status) → asked ≡ known
    → Does (option_map job_in known) before after s → Does (option_map job_in asked) before after s
of-words asked known before after s is ends = subst (λ (a : Option Asked). Does (option_map job_in a) before after s) (sym is) ends

pub returns-in-Some-Tell-clause-does : goal.returns-in-Some-Tell-clause-does
returns-in-Some-Tell-clause-does g c =
    let told = c.in-Some-Tell.field-0 in
    let is = rw c.in-Some-Tell.is at c.in-Some-Tell.field-0-is in
    of-words c.args.asked.now (Some told) _ _ c.tell_file.result c.in-Some-Tell.is
    (of-words (Some told) _ _ _ c.tell_file.result (ap Some is) (c.tell_file.ensures.does (g.S.Source.coming c.args.source.now) (g.S.Source.faults c.args.source.now)))

pub returns-in-Some-Made-clause-does : goal.returns-in-Some-Made-clause-does
returns-in-Some-Made-clause-does g c =
    let made = c.in-Some-Made.field-0 in
    let is = rw c.in-Some-Made.is at c.in-Some-Made.field-0-is in
    of-words c.args.asked.now (Some made) _ _ c.run_made.result c.in-Some-Made.is
    (of-words (Some made) _ _ _ c.run_made.result (ap Some is)
    (c.run_made.ensures.does (g.F.Files.contents c.args.files.now) (g.F.Files.faults c.args.files.now) (g.S.Source.coming c.args.source.now) (g.S.Source.faults c.args.source.now)))

pub returns-in-None-clause-does : goal.returns-in-None-clause-does
returns-in-None-clause-does g c =
    of-words c.args.asked.now None _ _ c.put_line.result c.in-None.is (record {
      ends = told-ends None _ _ status.Usage c.put_line.result usage_line (usage refl) c.put_line.ensures.puts refl;
      failures = told-counts None _ _ status.Usage c.put_line.result usage_line refl refl c.put_line.ensures.puts (λ quiet. quiet);
      goes = record { files = refl; file_faults = omega arith; source_faults = omega arith; sink_faults = c.put_line.ensures.later };
    })
