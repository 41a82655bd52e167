-- The four parts are the canonical file, which is read as the network.
use Rattle.nrm_network.proofs.CanonicalRead.{printed}
use Rattle.nrm_network.proofs.RowTexts.{file_written}
use Rattle.nrm_network.proofs.writing.print.Goals as goal

pub returns-clause-file : goal.returns-clause-file
returns-clause-file c =
    file_written c.args.net.now c.new-text.result.items c.push_periods.new.text.items c.push_legs.new.text.items
    c.push_products.new.text.items c.push_refunds.new.text.items c.push_demands.new.text.items
    c.new-text.ensures.items c.in_ok-push_periods.ensures.pushed c.in_ok-push_legs.ensures c.in_ok-push_products.ensures
    c.in_ok-push_refunds.ensures c.in_ok-push_demands.ensures

pub returns-clause-read : goal.returns-clause-read
returns-clause-read c = rw (returns-clause-file c) (printed c.args.net.now c.in_ok-push_periods.ensures.limits)
