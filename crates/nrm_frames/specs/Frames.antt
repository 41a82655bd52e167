-- The frames of a stream.
use Rattle.std.specs.Prelude.{ℕ, ◌≡◌, List, [], ◌∷◌, ◌++◌}
use Rattle.nrm_frames.specs.Cutting.{cut_of, no_frame, whole}
use Rattle.nrm_frames.specs.declared.header.Header.{Header}

-- a header, and the bytes that came behind it
pub record Frame : Type 0 where
  pub header : Header
  pub payload : List ℕ

-- the bytes begin with these frames, and this is left of them
abbrev pub AreFrames : List ℕ → List Frame → List ℕ → Type 0
AreFrames bytes [] rest = rest ≡ bytes
AreFrames bytes (frame ∷ frames) rest =
    (behind : List ℕ) × (cut_of bytes ≡ whole frame.header frame.payload behind) × AreFrames behind frames rest

-- What the frames of a stream are doesn't depend on how much of it is seen: those of a front are the first of the whole, and bytes
-- that begin no frame begin none whatever follows.
pub record FramesOfFront (bytes more : List ℕ) : Type 0 where
  pub frames : (frames : List Frame) (rest : List ℕ) → AreFrames bytes frames rest → AreFrames (bytes ++ more) frames (rest ++ more)
  pub none : cut_of bytes ≡ no_frame → cut_of (bytes ++ more) ≡ no_frame

abbrev pub FramesDontDependOnPieces : Type 0
FramesDontDependOnPieces = (bytes more : List ℕ) → FramesOfFront bytes more
