use Rattle.nrm_findings.specs.Summary.{fraction_of, hindsight_word}
use Rattle.nrm_findings.proofs.SummaryWords.{line-is}
use Rattle.nrm_findings.proofs.summary.line_of_summary.Goals as goal

pub returns : goal.returns
returns c =
    line-is c.args.counts.now c.args.revenue (hindsight_word (fraction_of c.args.hindsight)) _ _ _ _ _ c.line_of_counts-line.ensures.text c.push_count.ensures.text
    c.push_bytes.ensures.text c.push_hindsight.ensures.text c.push_bytes-2.ensures.text
