-- What is cut off, as the code gives it.
use Rattle.std.specs.Prelude.{◌≡◌}
use Rattle.nrm_frames.specs.Cutting.{FrameCut, no_frame, part, whole}
use Rattle.nrm_frames.specs.declared.cut.Cut.{Cut}
use Rattle.nrm_frames.specs.declared.cut.Cut.TheVariants as cut

abbrev pub IsCut : FrameCut → Cut → Type 0
IsCut is (cut.Whole header payload rest) = is ≡ whole header payload.now rest.now
IsCut is cut.Part = is ≡ part
IsCut is cut.NoFrame = is ≡ no_frame
