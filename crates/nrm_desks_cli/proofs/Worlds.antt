-- How a world that was served goes on.
use Rattle.std.proofs.Common.{ℕ, ◌≡◌, ◌∙◌, ◌+◌, List, [], ◌∷◌, ◌++◌, length, take, Option, refl, sym, ap, subst, inl, inr}
use Rattle.std.proofs.Common.{append-nil, arith, length-append}
use Rattle.std.specs.Prelude.{flat_map}
use Rattle.std.specs.Io.KnownBytes.{Appends, Consumes, Keeps}
use Rattle.std.proofs.KnownBytes.{Appends-kept, Appends-nil, Appends-trans, Consumes-nil, Consumes-trans, Keeps-refl}
use Rattle.std.proofs.lemmas.Grind.{flat_map-append}
use Rattle.std.proofs.Math.Seq.{take-append-add}
use Rattle.nrm_control.specs.Standing.{ControlValue}
use Rattle.nrm_edge.specs.Pieces.{AppendsCut, AppendsFront}
use Rattle.nrm_frames.proofs.Fronts.{pieces}
use Rattle.nrm_frames.specs.Cutting.{cut_of, whole}
use Rattle.nrm_frames.specs.Frames.{AreFrames, Frame}
use Rattle.nrm_frames.specs.Outgoing.{Output, output_text}
use Rattle.nrm_frames.specs.declared.header.Header.{Header}
use Rattle.nrm_frames.specs.declared.header.Header.TheVariants as header
use Rattle.nrm_session.specs.Serving.{Streams}
use Rattle.nrm_hub.specs.Goes.{Goes, GoesTo, Puts, PutsCut}
use Rattle.nrm_hub.specs.Hub.{HubValue, new_hub}
use Rattle.nrm_hub.specs.World.{Comes, World, beginning, frame, here, then as and_then}
use Rattle.nrm_desks_cli.specs.Inner.Serving.{PutsOrCut, Stands, at_sink}
use Rattle.nrm_desks_cli.specs.Served.{HasEnded, IsOpen, Served, ServedCut}

-- ---- one after another
comes-then : (a b c : World) → Comes a b → Comes b c → Comes a c
comes-then a b _ first here = first
comes-then a b _ first (and_then w w' rest step) = and_then w w' (comes-then a b w first rest) step

-- one more frame
frames-more : (bytes : List ℕ) (frames : List Frame) (rest : List ℕ) (h : Header) (payload behind : List ℕ) → AreFrames bytes frames rest
    → cut_of rest ≡ whole h payload behind → AreFrames bytes (frames ++ frame h payload ∷ []) behind
frames-more bytes [] rest h payload behind are cut = (behind, subst (λ (b : List ℕ). cut_of b ≡ whole h payload behind) are cut, refl)
frames-more bytes (f ∷ frames) rest h payload behind (mid, first, others) cut = (mid, first, frames-more mid frames rest h payload behind others cut)

-- a piece of which a front was written, behind what was written
front-then : (a b c : Option (List ℕ)) (bs cs : List ℕ) → Appends a b bs → AppendsFront b c cs → AppendsFront a c (bs ++ cs)
front-then a b c bs cs first front = record {
  count = length bs + front.count;
  short = let short = front.short in let long = length-append bs cs in omega arith;
  grown = subst (λ (xs : List ℕ). Appends a c xs) (sym (take-append-add bs cs front.count)) (Appends-trans a b c bs (take front.count cs) first front.grown);
}

-- ---- from a world in which the hub stands
module _ (start : ControlValue) (before at : Streams) (held held' : Option (List ℕ)) (faults faults' : ℕ) (old new : HubValue) (waiting : List ℕ)
    (taken : ℕ) (stands : Stands start before (at_sink at held faults) old waiting taken) where
  abbrev world : World
  world = stands.served.world

  text-then : (outputs : List Output) (w : World) → w.outputs ≡ world.outputs ++ outputs → flat_map output_text w.outputs ≡ flat_map output_text world.outputs ++ flat_map output_text outputs
  text-then outputs w is = ap (flat_map output_text) is ∙ flat_map-append output_text world.outputs outputs

  -- frames came and were written
  goes-to : (inputs : List Frame) (outputs : List Output) → Goes old new inputs outputs → GoesTo world new inputs outputs
  goes-to inputs outputs goes = goes world stands.hub_is

  -- a frame came
  frame-comes : (h : Header) (payload rest : List ℕ) (outputs : List Output) (to : GoesTo world new (frame h payload ∷ []) outputs)
      → cut_of waiting ≡ whole h payload rest → AreFrames stands.served.taken to.world.inputs rest
  frame-comes h payload rest outputs to cut =
      subst (λ (fs : List Frame). AreFrames stands.served.taken fs rest) (sym to.came)
      (frames-more stands.served.taken world.inputs stands.served.rest h payload rest stands.served.frames
      (subst (λ (b : List ℕ). cut_of b ≡ whole h payload rest) (sym stands.waits) cut))

  -- it was carried out
  record Went (h : Header) (payload rest : List ℕ) : Type 0 where
    served : Served start before (at_sink at held' faults')
    hub_is : served.world.hub ≡ new
    waits : served.rest ≡ rest
    count : length served.taken ≡ taken
    came : served.world.inputs ≡ world.inputs ++ frame h payload ∷ []

  frame-went : (h : Header) (payload rest : List ℕ) → cut_of waiting ≡ whole h payload rest → Puts old new (frame h payload ∷ []) held held'
      → Went h payload rest
  frame-went h payload rest cut puts =
      let to : GoesTo world new (frame h payload ∷ []) puts.outputs = goes-to _ _ puts.goes in
      record {
        served = record {
          world = to.world;
          comes = comes-then _ _ _ stands.served.comes to.comes;
          taken = stands.served.taken;
          rest = rest;
          frames = frame-comes h payload rest puts.outputs to cut;
          consumed = stands.served.consumed;
          written = subst (λ (xs : List ℕ). Appends before.held held' xs) (sym (text-then puts.outputs to.world to.written))
              (Appends-trans before.held held held' _ _ stands.served.written puts.written);
        };
        hub_is = to.stands;
        waits = refl;
        count = stands.count;
        came = to.came;
      }

  pub frame-goes_on : (h : Header) (payload rest : List ℕ) → cut_of waiting ≡ whole h payload rest → Puts old new (frame h payload ∷ []) held held'
      → IsOpen new → Stands start before (at_sink at held' faults') new rest taken
  frame-goes_on h payload rest cut puts open_still =
      let went = frame-went h payload rest cut puts in
      record { served = went.served; hub_is = went.hub_is; waits = went.waits; count = went.count; open_still = open_still }

  -- it was the last
  pub frame-last : (h : Header) (payload rest : List ℕ) → cut_of waiting ≡ whole h payload rest → h ≡ header.End → payload ≡ []
      → Puts old new (frame h payload ∷ []) held held' → (served : Served start before (at_sink at held' faults')) × HasEnded served
  frame-last h payload rest cut end nothing puts =
      let went = frame-went h payload rest cut puts in
      (went.served, inl (world.inputs, went.came ∙ ap (λ (f : Frame). world.inputs ++ f ∷ []) (λ n. frame (end n) (nothing n))))

  pub frame-cut : (h : Header) (payload rest : List ℕ) → cut_of waiting ≡ whole h payload rest → PutsCut old new (frame h payload ∷ []) held held'
      → ServedCut start before (at_sink at held' faults')
  frame-cut h payload rest cut puts =
      let to : GoesTo world new (frame h payload ∷ []) puts.outputs = goes-to _ _ puts.goes in
      record {
        world = to.world;
        comes = comes-then _ _ _ stands.served.comes to.comes;
        taken = stands.served.taken;
        rest = rest;
        frames = frame-comes h payload rest puts.outputs to cut;
        consumed = stands.served.consumed;
        written = subst (λ (xs : List ℕ). AppendsCut before.held held' xs) (sym (text-then puts.outputs to.world to.written))
            (inl (front-then before.held held held' _ _ stands.served.written puts.front));
      }

  -- frames were put, and none came
  pub puts-on : Puts old new [] held held' → IsOpen new → Stands start before (at_sink at held' faults') new waiting taken
  puts-on puts open_still =
      let to : GoesTo world new [] puts.outputs = goes-to _ _ puts.goes in
      record {
        served = record {
          world = to.world;
          comes = comes-then _ _ _ stands.served.comes to.comes;
          taken = stands.served.taken;
          rest = stands.served.rest;
          frames = subst (λ (fs : List Frame). AreFrames stands.served.taken fs stands.served.rest) (sym (to.came ∙ append-nil world.inputs)) stands.served.frames;
          consumed = stands.served.consumed;
          written = subst (λ (xs : List ℕ). Appends before.held held' xs) (sym (text-then puts.outputs to.world to.written))
              (Appends-trans before.held held held' _ _ stands.served.written puts.written);
        };
        hub_is = to.stands;
        waits = stands.waits;
        count = stands.count;
        open_still = open_still;
      }

  -- a put failed, or sending on
  pub puts-cut : PutsOrCut old new held held' → ServedCut start before (at_sink at held' faults')
  puts-cut (inl cut) =
      let to : GoesTo world new [] cut.outputs = goes-to _ _ cut.goes in
      record {
        world = to.world;
        comes = comes-then _ _ _ stands.served.comes to.comes;
        taken = stands.served.taken;
        rest = stands.served.rest;
        frames = subst (λ (fs : List Frame). AreFrames stands.served.taken fs stands.served.rest) (sym (to.came ∙ append-nil world.inputs)) stands.served.frames;
        consumed = stands.served.consumed;
        written = subst (λ (xs : List ℕ). AppendsCut before.held held' xs) (sym (text-then cut.outputs to.world to.written))
            (inl (front-then before.held held held' _ _ stands.served.written cut.front));
      }
  puts-cut (inr puts) =
      let to : GoesTo world new [] puts.outputs = goes-to _ _ puts.goes in
      record {
        world = to.world;
        comes = comes-then _ _ _ stands.served.comes to.comes;
        taken = stands.served.taken;
        rest = stands.served.rest;
        frames = subst (λ (fs : List Frame). AreFrames stands.served.taken fs stands.served.rest) (sym (to.came ∙ append-nil world.inputs)) stands.served.frames;
        consumed = stands.served.consumed;
        written = subst (λ (xs : List ℕ). AppendsCut before.held held' xs) (sym (text-then puts.outputs to.world to.written))
            (inr (Appends-trans before.held held held' _ _ stands.served.written puts.written));
      }

-- ---- more bytes came
module _ (start : ControlValue) (before at : Streams) (coming : Option (List ℕ)) (faults : ℕ) (hub : HubValue) (old new : List ℕ) (taken : ℕ)
    (stands : Stands start before at hub old taken) where
  pub takes-more : (piece : List ℕ) → new ≡ old ++ piece → Consumes at.coming coming piece
      → Stands start before (record { coming = coming; held = at.held; source_faults = faults; sink_faults = at.sink_faults }) hub new (taken + length piece)
  takes-more piece longer more = record {
    served = record {
      world = stands.served.world;
      comes = stands.served.comes;
      taken = stands.served.taken ++ piece;
      rest = stands.served.rest ++ piece;
      frames = (pieces stands.served.taken piece).frames stands.served.world.inputs stands.served.rest stands.served.frames;
      consumed = Consumes-trans before.coming at.coming coming _ _ stands.served.consumed more;
      written = stands.served.written;
    };
    hub_is = stands.hub_is;
    waits = ap (λ (b : List ℕ). b ++ piece) stands.waits ∙ sym longer;
    count = length-append stands.served.taken piece ∙ ap (λ (n : ℕ). n + length piece) stands.count;
    open_still = stands.open_still;
  }

-- ---- the beginning
pub stands-first : (start : ControlValue) (at : Streams) (hub : HubValue) → hub ≡ new_hub start → Stands start at at hub [] 0
stands-first start at hub is = record {
  served = record {
    world = beginning start;
    comes = here;
    taken = [];
    rest = [];
    frames = refl;
    consumed = Consumes-nil at.coming;
    written = Appends-nil at.held;
  };
  hub_is = sym is;
  waits = refl;
  count = refl;
  open_still = subst IsOpen (sym is) (inl refl);
}

-- ---- the sink kept what it holds
abbrev pub served-kept : (start : ControlValue) (before at : Streams) (held : Option (List ℕ)) (faults : ℕ) → (served : Served start before at)
    → Keeps at.held held → Served start before (at_sink at held faults)
served-kept start before at held faults served kept = record {
  world = served.world;
  comes = served.comes;
  taken = served.taken;
  rest = served.rest;
  frames = served.frames;
  consumed = served.consumed;
  written = Appends-kept before.held at.held held (flat_map output_text served.world.outputs) served.written kept;
}

pub served-cut : (start : ControlValue) (before at : Streams) (held : Option (List ℕ)) (faults : ℕ) → Served start before at → Keeps at.held held
    → ServedCut start before (at_sink at held faults)
served-cut start before at held faults served kept = record {
  world = served.world;
  comes = served.comes;
  taken = served.taken;
  rest = served.rest;
  frames = served.frames;
  consumed = served.consumed;
  written = inr (Appends-kept before.held at.held held (flat_map output_text served.world.outputs) served.written kept);
}

pub kept-same : (held held' : Option (List ℕ)) → held' ≡ held → Keeps held held'
kept-same held held' is = subst (λ (h : Option (List ℕ)). Keeps held h) (sym is) (Keeps-refl held)
