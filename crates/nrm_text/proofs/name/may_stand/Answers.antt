-- The table of bytes tells of each byte whether it may stand in a name.
use Rattle.std.proofs.Common.{◌==◌, get_or, refl}
use Rattle.std.proofs.lemmas.Bool.{agree_below_at}
use Rattle.nrm_text.specs.Names.{is_name_byte}
use Rattle.nrm_text.specs.declared.name.TheConstants.{NAME_BYTES}
use Rattle.nrm_text.proofs.name.may_stand.Goals as goal

pub returns : goal.returns
returns c = agree_below_at (λ b. get_or NAME_BYTES b 0 == b) is_name_byte 256 c.args.c refl c.ranges.c.fits
