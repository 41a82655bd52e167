-- The client at the place is read, and written back.
use Rattle.std.proofs.Common.{ℕ, ◌≡◌, ◌<◌, ◌∙◌, List, Option, Some, None, length, get_or, refl, sym, ap, subst, arith}
use Rattle.nrm_hub.specs.Clients.{ClientValue}
use Rattle.std.specs.Prelude.{slice_set}
use Rattle.nrm_hub.specs.Due.{AreDue}
use Rattle.nrm_hub.proofs.DuePlaces.{set-heard, still-beside, still-same}
use Rattle.nrm_hub.specs.Inner.Seats.{TakesBy, nobody, takes}
use Rattle.nrm_hub.specs.declared.client.Took.TheVariants as took
use Rattle.nrm_hub.specs.World.{TakesNothing}
use Rattle.nrm_hub.specs.Register.{RegisterValue}
use Rattle.nrm_hub.specs.Spare.{IsSpare}
use Rattle.std.proofs.lemmas.List.{get_or_past}
use Rattle.nrm_hub.proofs.HubPlaces.{at-place, none-of, takes-nothing, unchanged}
use Rattle.nrm_hub.proofs.hub.use_line_at.Goals as goal

-- what is said of the clients as they were read is said of them
abbrev IsSpareAt : RegisterValue → ℕ → Option ℕ → List (Option ClientValue) → Type 0
IsSpareAt r place spare clients = (c : ClientValue) → get_or clients place None ≡ Some c → c.desk ≡ None → IsSpare r clients spare

spare-of : (r : RegisterValue) (place : ℕ) (spare : Option ℕ) (read clients : List (Option ClientValue)) → read ≡ clients
    → IsSpareAt r place spare read → IsSpareAt r place spare clients
spare-of r place spare read clients same is = subst (IsSpareAt r place spare) same is

none-there : {A : Type 0} {x : A} → None ≡ Some x → ⊥
none-there same = absurd (cc)

pub returns-then-at-len-clause-takes : goal.returns-then-at-len-clause-takes
returns-then-at-len-clause-takes c =
    let past : get_or c.args.clients.now.items c.args.place None ≡ None =
    get_or_past c.args.clients.now.items c.args.place None (omega (arith, c.args.clients.now.ok.0)) in
    record {
      spare = None;
      is_spare = λ client there none. absurd (none-there (sym past ∙ there));
      takes = nobody refl (subst TakesNothing (sym past) tt);
    }

pub returns-in_default-clause-takes : goal.returns-in_default-clause-takes
returns-in_default-clause-takes c =
    let r = c.args.register.now in
    let clients = c.args.clients.now.items in
    let within : c.args.place < length clients = omega (arith, c.args.clients.now.ok.0) in
    subst (λ (cs : List (Option ClientValue)). TakesBy r r clients c.args.place cs took.Nothing)
    (sym (unchanged clients c.args.place c.index_mut.result.now within c.index_mut.ensures.value))
    (record {
      spare = c.spare_for-spare.result;
      is_spare = spare-of r c.args.place c.spare_for-spare.result c.deref.result.now clients c.deref.ensures.value c.spare_for-spare.ensures.spare;
      takes = nobody refl (subst TakesNothing (sym (at-place clients c.args.place c.index_mut.result.now within c.index_mut.ensures.value ∙ c.in_default.is)) tt);
    })

pub returns-then-is_some-clause-takes : goal.returns-then-is_some-clause-takes
returns-then-is_some-clause-takes c =
    let r = c.args.register.now in
    let clients = c.args.clients.now.items in
    let within : c.args.place < length clients = omega (arith, c.args.clients.now.ok.0) in
    let read : Some c.in-Some.client ≡ get_or clients c.args.place (Some c.in-Some.client) =
    sym c.in-Some.is ∙ c.index_mut.ensures.value ∙ ap (λ (x : Option ClientValue). get_or clients c.args.place x) c.in-Some.is in
    subst (λ (cs : List (Option ClientValue)). TakesBy r r clients c.args.place cs took.Nothing)
    (sym (unchanged clients c.args.place (Some c.in-Some.client) within read))
    (record {
      spare = c.spare_for-spare.result;
      is_spare = spare-of r c.args.place c.spare_for-spare.result c.deref.result.now clients c.deref.ensures.value c.spare_for-spare.ensures.spare;
      takes = nobody refl (subst TakesNothing (sym (at-place clients c.args.place (Some c.in-Some.client) within read))
          (takes-nothing c.in-Some.client c.closing.result c.closing.ensures (sym c.if-is_some.ensures)));
    })

pub returns-clause-takes : goal.returns-clause-takes
returns-clause-takes c =
    let clients = c.args.clients.now.items in
    let within : c.args.place < length clients = omega (arith, c.args.clients.now.ok.0) in
    let r = c.args.register.now in
    subst (λ (x : ClientValue). TakesBy r c.use_next-took.new.register clients c.args.place (slice_set clients c.args.place (Some x)) c.use_next-took.result)
    (sym c.list.ensures.client)
    (record {
      spare = c.spare_for-spare.result;
      is_spare = spare-of r c.args.place c.spare_for-spare.result c.deref.result.now clients c.deref.ensures.value c.spare_for-spare.ensures.spare;
      takes = takes c.in-Some.client c.use_next-took.new.self c.use_next-took.result
          (at-place clients c.args.place c.index_mut.result.now within c.index_mut.ensures.value ∙ c.in-Some.is)
          (sym c.closing.ensures ∙ none-of c.closing.result (sym c.if-is_some.ensures)) c.use_next-took.ensures.took;
    })

pub returns-in_default-clause-due : goal.returns-in_default-clause-due
returns-in_default-clause-due c due are =
    let clients = c.args.clients.now.items in
    let within : c.args.place < length clients = omega (arith, c.args.clients.now.ok.0) in
    subst (λ (cs : List (Option ClientValue)). AreDue cs due c.args.heard.now)
    (sym (unchanged clients c.args.place c.index_mut.result.now within c.index_mut.ensures.value)) are

pub returns-then-is_some-clause-due : goal.returns-then-is_some-clause-due
returns-then-is_some-clause-due c due are =
    let clients = c.args.clients.now.items in
    let within : c.args.place < length clients = omega (arith, c.args.clients.now.ok.0) in
    subst (λ (cs : List (Option ClientValue)). AreDue cs due c.args.heard.now)
    (sym (unchanged clients c.args.place (Some c.in-Some.client) within
    (sym c.in-Some.is ∙ c.index_mut.ensures.value ∙ ap (λ (x : Option ClientValue). get_or clients c.args.place x) c.in-Some.is))) are

pub returns-clause-due : goal.returns-clause-due
returns-clause-due c due are =
    let clients = c.args.clients.now.items in
    let within : c.args.place < length clients = omega (arith, c.args.clients.now.ok.0) in
    set-heard clients due due c.args.heard.now c.list.new.due c.args.place (Some c.list.new.client) within
    (still-beside c.args.place due due (still-same due)) c.list.ensures.still c.list.ensures.due are
