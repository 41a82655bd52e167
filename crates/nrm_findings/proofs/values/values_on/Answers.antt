use Rattle.nrm_findings.proofs.LegClasses.{classes-within}
use Rattle.nrm_findings.proofs.values.values_on.Goals as goal

pub text_of_values-requires-clause-products : goal.text_of_values-requires-clause-products
text_of_values-requires-clause-products c = classes-within c.args.net.now c.in-Some.leg c.in_ok-classes.classes c.in_ok-classes.ensures.classes
