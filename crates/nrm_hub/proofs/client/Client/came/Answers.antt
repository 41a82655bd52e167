-- The piece joins what came, or it is too much.
use Rattle.std.proofs.Common.{ℕ, ◌≡◌, ◌∙◌, ◌+◌, ◌-◌, ◌<◌, ◌≤◌, ◌++◌, List, ap, arith, drop, length, length-drop, subst, sym}
use Rattle.std.proofs.lemmas.List.{drop-append-le}
use Rattle.nrm_frames.specs.declared.why.Why.TheVariants as why
use Rattle.nrm_hub.specs.Clients.{ClientValue, closed_for, with_piece}
use Rattle.nrm_hub.specs.Inner.Taking.{Came, joined, refused}
use Rattle.nrm_hub.specs.declared.limits.TheConstants.{MOST_WAITING}
use Rattle.nrm_hub.proofs.client.Client.came.Goals as goal
use Rattle.nrm_hub.proofs.client.Client.came.Goals.{then-waiting-gt-MOST_WAITING-via-then-waiting-gt-MOST_WAITING, then-waiting-gt-MOST_WAITING-via-else-waiting-gt-MOST_WAITING+then-piece-waiting}

pub returns-then-waiting-gt-MOST_WAITING : goal.returns-then-waiting-gt-MOST_WAITING
returns-then-waiting-gt-MOST_WAITING c =
    let was : ClientValue = c.args.self.now in
    let piece : List ℕ = c.args.piece.now in
    let coming : length was.coming ≡ length c.self.inside.bytes.items - c.self.inside.start =
    ap (λ (c : ClientValue). length c.coming) (sym c.self.view_is) ∙ length-drop c.self.inside.start c.self.inside.bytes.items in
    let much : MOST_WAITING < length was.coming + length piece = elim c.then-waiting-gt-MOST_WAITING.branch [
      | then-waiting-gt-MOST_WAITING-via-then-waiting-gt-MOST_WAITING w ↦ omega (arith, coming, c.self.inside.bytes.ok.0, c.len.ensures)
      | then-waiting-gt-MOST_WAITING-via-else-waiting-gt-MOST_WAITING+then-piece-waiting w ↦ omega (arith, coming, c.self.inside.bytes.ok.0, c.len.ensures)
    ] in
    subst (λ (x : ClientValue). Came was x piece) (sym c.close.ensures) (refused piece why.Window much)

pub returns-in-Err : goal.returns-in-Err
returns-in-Err c =
    let was : ClientValue = c.args.self.now in
    let piece : List ℕ = c.args.piece.now in
    subst (λ (x : ClientValue). Came was x piece)
    (sym (c.close-in-Err.ensures ∙ ap (λ (x : ClientValue). closed_for x why.Memory) (c.self-2.view_is ∙ c.drop_used.ensures)))
    (refused piece why.Memory tt)

pub returns-in-Ok : goal.returns-in-Ok
returns-in-Ok c =
    let was : ClientValue = c.args.self.now in
    let piece : List ℕ = c.args.piece.now in
    let bytes : List ℕ = c.self-2.inside.bytes.items in
    let more : drop c.self-2.inside.start c.extend_from_slice.new.self.items ≡ drop c.self-2.inside.start bytes ++ piece =
    ap (λ (b : List ℕ). drop c.self-2.inside.start b) c.in-Ok.ensures.items ∙ drop-append-le c.self-2.inside.start bytes piece c.self-2.invariant.0 in
    let now : ClientValue = record {
      serial = c.self-2.inside.serial;
      name = c.self-2.inside.name;
      rights = c.self-2.inside.rights;
      desk = c.self-2.inside.desk;
      number = c.self-2.inside.number;
      coming = drop c.self-2.inside.start bytes;
      told = c.self-2.inside.told.waiting;
      used = c.self-2.inside.used;
      closing = c.self-2.inside.closing;
    } in
    let before : length was.coming ≡ length c.self.inside.bytes.items - c.self.inside.start =
    ap (λ (c : ClientValue). length c.coming) (sym c.self.view_is) ∙ length-drop c.self.inside.start c.self.inside.bytes.items in
    let fits : length was.coming + length piece ≤ MOST_WAITING =
    omega (arith, before, c.self.inside.bytes.ok.0, c.len.ensures, c.if-waiting-gt-MOST_WAITING.false, c.if-piece-waiting.false) in
    subst (λ (x : ClientValue). Came was x piece)
    (sym (ap (λ (coming : List ℕ). let x : ClientValue = record now { coming = coming } in x) more
    ∙ ap (λ (x : ClientValue). with_piece x piece) (c.self-2.view_is ∙ c.drop_used.ensures)))
    (joined piece fits)
