-- The text joins what waits, and the line is used.
use Rattle.std.proofs.Common.{◌∙◌, ap, drop, subst, sym}
use Rattle.nrm_hub.specs.Clients.{ClientValue}
use Rattle.nrm_hub.specs.Inner.Taking.{Excuses, settled}
use Rattle.nrm_hub.proofs.ClientLines.{heard}
use Rattle.nrm_hub.proofs.client.Client.excuse.Goals as goal

pub returns : goal.returns
returns c =
    let was : ClientValue = record {
      serial = c.self.inside.serial;
      name = c.self.inside.name;
      rights = c.self.inside.rights;
      desk = c.self.inside.desk;
      number = c.self.inside.number;
      coming = drop c.self.inside.start c.self.inside.bytes.items;
      told = c.self.inside.told.waiting;
      used = c.self.inside.used;
      closing = c.self.inside.closing;
    } in
    let taken = c.tell-taken.result in
    subst (λ (x : ClientValue). Excuses x c.settle.new.self c.args.end c.args.text.now) c.self.view_is
    (subst (λ (x : ClientValue). Excuses was x c.args.end c.args.text.now)
    (sym (c.settle.ensures ∙ ap (λ (x : ClientValue). settled x taken) c.use_line.ensures))
    (heard was c.args.end c.args.text.now c.tell-taken.new.told.waiting taken c.tell-taken.ensures))
