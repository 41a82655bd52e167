-- All that waits was looked at.
use Rattle.std.proofs.Common.{Bool, not, ℕ, ◌≡◌, ◌∙◌, ◌-◌, List, ap, arith, drop, length, length-drop, sym}
use Rattle.nrm_hub.specs.Clients.{ClientValue}
use Rattle.nrm_hub.proofs.ClientLines.{no-line}
use Rattle.nrm_hub.proofs.HubPlaces.{none-of}
use Rattle.nrm_hub.proofs.client.Client.has_no_line.Goals as goal

pub returns-then-waiting-lt-MOST_LINE : goal.returns-then-waiting-lt-MOST_LINE
returns-then-waiting-lt-MOST_LINE c none =
    let coming : List ℕ = c.args.self.now.coming in
    let is : drop c.self.inside.start c.self.inside.bytes.items ≡ coming = ap (λ (x : ClientValue). x.coming) c.self.view_is in
    let count : length coming ≡ length c.self.inside.bytes.items - c.self.inside.start =
    ap (λ (b : List ℕ). length b) (sym is) ∙ length-drop c.self.inside.start c.self.inside.bytes.items in
    let waiting : ℕ = c.len.result - c.self.inside.start in
    let waits : waiting ≡ length coming = omega (arith, count, c.len.ensures, c.self.inside.bytes.ok.0) in
    no-line c.args.self.now c.self.inside.start waiting c.self.inside.bytes.items c.deref.result.now c.part.result.now c.line_end.result
    c.part.ensures c.deref.ensures.value is waits c.if-waiting-lt-MOST_LINE.true c.line_end.ensures
    (none-of c.line_end.result (c.is_none.ensures ∙ ap (λ (b : Bool). not b) none))
