-- Frames that the hub put, one after another.
use Rattle.std.proofs.Common.{ℕ, ◌≡◌, List, [], ◌∷◌, ◌++◌, Option, flat_map, sym, subst, append-nil}
use Rattle.std.proofs.KnownBytes.{Appends-nil, Appends-trans}
use Rattle.std.proofs.lemmas.Grind.{flat_map-append}
use Rattle.std.specs.Prelude.{OnErr, OnOk, Result, Ok, Err}
use Rattle.std.specs.Io.KnownBytes.{Appends}
use Rattle.nrm_edge.specs.Pieces.{AppendsFront}
use Rattle.nrm_edge.proofs.Sent.{AppendsFront-after}
use Rattle.nrm_edge.specs.declared.source.Failed.{Failed}
use Rattle.nrm_frames.specs.Frames.{Frame}
use Rattle.nrm_frames.specs.Outgoing.{Output, output_text}
use Rattle.nrm_hub.specs.Goes.{Goes, Puts, PutsCut}
use Rattle.nrm_hub.specs.Hub.{HubValue}
use Rattle.nrm_hub.proofs.Going.{goes-nothing, goes-on, goes-then}

pub puts-nothing : (h : HubValue) (held : Option (List ℕ)) → Puts h h [] held held
puts-nothing h held = record { outputs = []; goes = goes-nothing h; written = Appends-nil held }

pub puts-still : (a b : HubValue) (held : Option (List ℕ)) → a ≡ b → Puts a b [] held held
puts-still a b held same = subst (λ (h : HubValue). Puts a h [] held held) same (puts-nothing a held)

-- one frame
pub puts-one : {i : List Frame} (a b : HubValue) (output : Output) (held held' : Option (List ℕ)) → Goes a b i (output ∷ [])
    → Appends held held' (output_text output) → Puts a b i held held'
puts-one a b output held held' goes written = record {
  outputs = output ∷ [];
  goes = goes;
  written = subst (Appends held held') (sym (append-nil (output_text output))) written;
}

pub puts-one-cut : {i : List Frame} (a b : HubValue) (output : Output) (held held' : Option (List ℕ)) → Goes a b i (output ∷ [])
    → AppendsFront held held' (output_text output) → PutsCut a b i held held'
puts-one-cut a b output held held' goes front = record {
  outputs = output ∷ [];
  goes = goes;
  front = subst (AppendsFront held held') (sym (append-nil (output_text output))) front;
}

module _ {i i' : List Frame} (a b c : HubValue) (held mid held' : Option (List ℕ)) (first : Puts a b i held mid) where
  pub puts-then : Puts b c i' mid held' → Puts a c (i ++ i') held held'
  puts-then rest = record {
    outputs = first.outputs ++ rest.outputs;
    goes = goes-then a b c i i' first.outputs rest.outputs first.goes rest.goes;
    written = subst (Appends held held') (sym (flat_map-append output_text first.outputs rest.outputs))
        (Appends-trans held mid held' (flat_map output_text first.outputs) (flat_map output_text rest.outputs) first.written rest.written);
  }

  pub puts-then-cut : PutsCut b c i' mid held' → PutsCut a c (i ++ i') held held'
  puts-then-cut rest = record {
    outputs = first.outputs ++ rest.outputs;
    goes = goes-then a b c i i' first.outputs rest.outputs first.goes rest.goes;
    front = subst (AppendsFront held held') (sym (flat_map-append output_text first.outputs rest.outputs))
        (AppendsFront-after held mid held' (flat_map output_text first.outputs) (flat_map output_text rest.outputs) first.written rest.front);
  }

-- frames that were put after steps that put none, and before such steps
module _ {i i' : List Frame} (a b c : HubValue) (held held' : Option (List ℕ)) where
  pub puts-behind : Goes a b i [] → Puts b c i' held held' → Puts a c (i ++ i') held held'
  puts-behind goes puts =
      record { outputs = puts.outputs; goes = goes-then a b c i i' [] puts.outputs goes puts.goes; written = puts.written }

  pub cut-behind : Goes a b i [] → PutsCut b c i' held held' → PutsCut a c (i ++ i') held held'
  cut-behind goes cut =
      record { outputs = cut.outputs; goes = goes-then a b c i i' [] cut.outputs goes cut.goes; front = cut.front }

pub puts-after : {T : Type 0} (a b c : HubValue) (held held' : Option (List ℕ)) (put : Result T Failed) → Goes a b [] [] → OnOk put (Puts b c [] held held')
    → OnOk put (Puts a c [] held held')
puts-after a b c held held' (Ok t) goes puts = puts-behind a b c held held' goes puts
puts-after a b c held held' (Err failed) goes puts = tt

pub cut-after : {T : Type 0} (a b c : HubValue) (held held' : Option (List ℕ)) (put : Result T Failed) → Goes a b [] [] → OnErr put (PutsCut b c [] held held')
    → OnErr put (PutsCut a c [] held held')
cut-after a b c held held' (Ok t) goes cut = tt
cut-after a b c held held' (Err failed) goes cut = cut-behind a b c held held' goes cut

pub puts-on : (a b c : HubValue) (i : List Frame) (held held' : Option (List ℕ)) → Puts a b i held held' → Goes b c [] [] → Puts a c i held held'
puts-on a b c i held held' puts goes =
    record { outputs = puts.outputs; goes = goes-on a b c i puts.outputs puts.goes goes; written = puts.written }
