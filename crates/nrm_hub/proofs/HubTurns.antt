-- What a turn leaves of a client: lines of it were used, or it is to be closed, or it has none.
use Rattle.std.proofs.Common.{ℕ, ◌≡◌, ◌∙◌, ◌+◌, ◌<◌, List, length, Option, Some, None, refl, sym, ap, subst, arith, inl, inr}
use Rattle.std.proofs.lemmas.List.{get_or-set_same}
use Rattle.nrm_hub.specs.Clients.{ClientValue, Hears, cut, whole}
use Rattle.nrm_hub.specs.Inner.Seats.{MakesSo, TakesAt, nobody, takes}
use Rattle.nrm_hub.specs.Inner.Taking.{Begins, IsTook, joined, taken}
use Rattle.nrm_hub.specs.Lines.{How}
use Rattle.nrm_hub.specs.Register.{RegisterValue}
use Rattle.nrm_hub.specs.Taking.{TakesLine, answers, greets, lacks_memory, may_not_greet, refuses, too_many}
use Rattle.nrm_hub.specs.Waiting.{HadTurn}
use Rattle.nrm_hub.specs.World.{TakesNothing}
use Rattle.nrm_hub.specs.declared.client.Took.{Took}
use Rattle.nrm_hub.specs.declared.client.Took.TheVariants as took
use Rattle.nrm_hub.proofs.ClientPlaces.{at-changed}
use Rattle.nrm_hub.proofs.HubPlaces.{place-within}

hears-used : (old : ClientValue) (text : List ℕ) (new : ClientValue) → Hears old text new → new.used ≡ old.used
hears-used old text new whole = refl
hears-used old text new (cut count few) = refl

pub line-used : {spare : Option ℕ} (r : RegisterValue) (c : ClientValue) (bytes rest : List ℕ) (r' : RegisterValue) (c' : ClientValue) (how : How) (text : List ℕ)
    → TakesLine spare r c bytes rest r' c' how text → c'.used ≡ c.used + (length bytes + 1)
line-used r c bytes rest r' c' how text (greets name number mid d n after first asked_is may joins is hears) = hears-used _ _ after hears
line-used r c bytes rest r' c' how text (may_not_greet name number after first asked may hears) = hears-used _ _ after hears
line-used r c bytes rest r' c' how text (lacks_memory after first new hears) = hears-used _ _ after hears
line-used r c bytes rest r' c' how text (too_many first new many none) = refl
line-used r c bytes rest r' c' how text (answers d mid after done told is given hears) = hears-used _ _ after hears
line-used r c bytes rest r' c' how text (refuses d reason is given) = refl

begins-used : {spare : Option ℕ} (r r' : RegisterValue) (c c' : ClientValue) (end : ℕ) → Begins spare r r' c c' end → 0 < c'.used
begins-used r r' c c' end (taken its) = omega (arith, line-used r c _ _ r' c' its.how its.text its.takes)
begins-used r r' c c' end (joined mid d first plain joins its) = omega (arith, line-used mid _ _ _ r' c' its.how its.text its.takes)

closing-had : (x : ClientValue) (r : _) → x.closing ≡ Some r → HadTurn x
closing-had x r is = inr (inl (λ none. cc))

took-had : (spare : Option ℕ) (r r' : RegisterValue) (c c' : ClientValue) (result : Took) → IsTook spare r r' c c' result → HadTurn c'
took-had spare r r' c c' took.Nothing (same, is, turn) = subst HadTurn (sym is) (elim turn [
  | inl used ↦ inl used
  | inr line ↦ inr (inr line)
])
took-had spare r r' c c' took.Line next = inl (begins-used r r' c c' next.end next.begins)
took-had spare r r' c c' took.LongLine next = inl (begins-used r r' c c' next.end next.begins)
took-had spare r r' c c' took.TooLong (same, is, long, none) = closing-had c' _ (ap (λ (x : ClientValue). x.closing) is)

-- the client at a place had its turn, and the others are as they were
pub took-so : {spare : Option ℕ} (r r' : RegisterValue) (clients : List (Option ClientValue)) (place : ℕ) (clients' : List (Option ClientValue)) (result : Took)
    → TakesAt spare r r' clients place clients' result → MakesSo HadTurn clients clients' place
took-so {spare} r r' clients place clients' result (takes c c' _ there unclosed is) =
    let within : place < length clients = place-within clients place c there in
    record {
      so = λ d now.
          let same : Some c' ≡ Some d = sym (get_or-set_same clients place (Some c') None within) ∙ now in
          subst HadTurn (cc) (took-had spare r r' c c' result is);
      only = λ other d now. elim (at-changed clients place other (Some c') d within now) [
        | inl (e, same) ↦ inr (subst HadTurn (cc) (took-had spare r r' c c' result is))
        | inr (e, was) ↦ inl was
      ];
    }
took-so {spare} r r' clients place clients' result (nobody same nothing) = record {
  so = λ d now. inr (inl (subst TakesNothing now nothing));
  only = λ other d now. inl now;
}
