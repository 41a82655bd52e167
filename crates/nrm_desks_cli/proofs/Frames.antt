-- What is done with a frame, by what the hub did and what was put.
use Rattle.std.proofs.Common.{ℕ, ◌≡◌, ◌∙◌, List, [], ◌∷◌, length, Option, refl, sym, ap, subst, inr}
use Rattle.std.proofs.Common.{append-nil, arith}
use Rattle.std.specs.Prelude.{flat_map, OnErr, OnOk, Result, Ok, Err}
use Rattle.std.specs.Io.KnownBytes.{Appends, Keeps}
use Rattle.std.proofs.KnownBytes.{Appends-kept, Appends-nil}
use Rattle.nrm_edge.specs.Causes.{HasCause}
use Rattle.nrm_edge.specs.Pieces.{AppendsFront}
use Rattle.nrm_edge.specs.declared.source.Failed.{Failed}
use Rattle.nrm_frames.specs.Frames.{Frame}
use Rattle.nrm_frames.specs.Headers.{size_of}
use Rattle.nrm_frames.specs.Outgoing.{Output, output_text}
use Rattle.nrm_frames.specs.declared.header.Header.{Header}
use Rattle.nrm_hub.proofs.Going.{goes-nothing}
use Rattle.nrm_hub.specs.Goes.{Goes, Puts, PutsCut}
use Rattle.nrm_hub.specs.Hub.{HubValue}
use Rattle.nrm_hub.specs.World.{frame}
use Rattle.nrm_desks_cli.specs.Inner.Handling.{Handles, outcome_of}
use Rattle.nrm_desks_cli.specs.Inner.Serving.{PutsOrCut}
use Rattle.nrm_desks_cli.specs.declared.handling.Handled.{Handled}

one-text : (o : Output) → output_text o ≡ flat_map output_text (o ∷ [])
one-text o = sym (append-nil (output_text o))

-- one frame was put
pub put-handled : {T : Type 0} (old new : HubValue) (h : Header) (payload : List ℕ) (held held' : Option (List ℕ)) (before after : ℕ) (o : Output)
    (put : Result T Failed) (what : Handled) → what ≡ outcome_of put → Goes old new (frame h payload ∷ []) (o ∷ [])
    → OnOk put (Appends held held' (output_text o)) → OnErr put (AppendsFront held held' (output_text o)) → HasCause before after put
    → Handles old new h payload held held' before after what
put-handled {T} old new h payload held held' before after o put what is goes whole cut cause =
    subst (Handles old new h payload held held' before after) (sym is) (by put whole cut cause)
  where
    by : (put : Result T Failed) → OnOk put (Appends held held' (output_text o)) → OnErr put (AppendsFront held held' (output_text o))
        → HasCause before after put → Handles old new h payload held held' before after (outcome_of put)
    by (Ok t) whole cut cause =
        (record { outputs = o ∷ []; goes = goes; written = subst (Appends held held') (one-text o) whole }, cause.done)
    by (Err failed) whole cut cause =
        (record { outputs = o ∷ []; goes = goes; front = subst (AppendsFront held held') (one-text o) cut }, cause.failed)

-- frames were put, or a front of them
pub puts-handled : {T : Type 0} (old new : HubValue) (h : Header) (payload : List ℕ) (held held' : Option (List ℕ)) (before after : ℕ)
    (put : Result T Failed) (what : Handled) → what ≡ outcome_of put → OnOk put (Puts old new (frame h payload ∷ []) held held')
    → OnErr put (PutsCut old new (frame h payload ∷ []) held held') → HasCause before after put → Handles old new h payload held held' before after what
puts-handled {T} old new h payload held held' before after put what is puts cut cause =
    subst (Handles old new h payload held held' before after) (sym is) (by put puts cut cause)
  where
    by : (put : Result T Failed) → OnOk put (Puts old new (frame h payload ∷ []) held held') → OnErr put (PutsCut old new (frame h payload ∷ []) held held')
        → HasCause before after put → Handles old new h payload held held' before after (outcome_of put)
    by (Ok t) puts cut cause = (puts, cause.done)
    by (Err failed) puts cut cause = (cut, cause.failed)

-- a frame that brings no bytes and puts none
pub nothing-of : (xs : List ℕ) → length xs ≡ 0 → xs ≡ []
nothing-of [] is = refl
nothing-of (x ∷ xs) is = absurd (omega arith)

pub bare-handled : (old new : HubValue) (h bare : Header) (payload : List ℕ) (held : Option (List ℕ)) → h ≡ bare → size_of bare ≡ 0
    → length payload ≡ size_of h → Goes old new (frame bare [] ∷ []) [] → (payload ≡ []) × Puts old new (frame h payload ∷ []) held held
bare-handled old new h bare payload held same none size goes =
    let empty = nothing-of payload (size ∙ ap size_of same ∙ none) in (
      empty,
      record {
        outputs = [];
        goes = subst (λ (f : Frame). Goes old new (f ∷ []) []) (λ n. frame (sym same n) (sym empty n)) goes;
        written = Appends-nil held;
      },
    )

-- ---- turns
pub puts-nothing : (h : HubValue) (held held' : Option (List ℕ)) → Keeps held held' → Puts h h [] held held'
puts-nothing h held held' kept = record { outputs = []; goes = goes-nothing h; written = Appends-kept held held held' [] (Appends-nil held) kept }

-- and sending them on
pub puts-kept : (a b : HubValue) (held held' held'' : Option (List ℕ)) → Puts a b [] held held' → Keeps held' held'' → Puts a b [] held held''
puts-kept a b held held' held'' puts kept =
    record { outputs = puts.outputs; goes = puts.goes; written = Appends-kept held held' held'' (flat_map output_text puts.outputs) puts.written kept }

pub puts-sent : {T : Type 0} (a b : HubValue) (held held' held'' : Option (List ℕ)) (sent : Result T Failed) → Puts a b [] held held' → Keeps held' held''
    → OnOk sent (Puts a b [] held held'')
puts-sent a b held held' held'' (Ok t) puts kept = puts-kept a b held held' held'' puts kept
puts-sent a b held held' held'' (Err failed) puts kept = tt

pub puts-unsent : {T : Type 0} (a b : HubValue) (held held' held'' : Option (List ℕ)) (sent : Result T Failed) → Puts a b [] held held' → Keeps held' held''
    → OnErr sent (PutsOrCut a b held held'')
puts-unsent a b held held' held'' (Ok t) puts kept = tt
puts-unsent a b held held' held'' (Err failed) puts kept = inr (puts-kept a b held held' held'' puts kept)
