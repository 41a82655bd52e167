-- The first frame of some bytes.
use Rattle.std.specs.Prelude.{ℕ, ◌==◌, ◌+◌, List, drop, length, nat_lt, position, take, Option, Some, None, if◌then◌else◌}
use Rattle.nrm_frames.specs.Headers.{header_of, size_of}
use Rattle.nrm_frames.specs.declared.limits.TheConstants.{MOST_HEADER}
use Rattle.nrm_frames.specs.declared.header.Header.{Header}

-- a whole frame, and the bytes behind it; or the bytes are the beginning of one, perhaps; or they begin no frame
pub data FrameCut : Type 0 where
  whole : Header → List ℕ → List ℕ → FrameCut
  part : FrameCut
  no_frame : FrameCut

-- the bytes behind the line of a frame: so many of them belong to it
abbrev pub payload_of : Header → List ℕ → FrameCut
payload_of header rest =
    if nat_lt (length rest) (size_of header) then part else whole header (take (size_of header) rest) (drop (size_of header) rest)

-- a line that ends at this place heads a frame
abbrev pub headed_by : Option Header → List ℕ → FrameCut
headed_by None rest = no_frame
headed_by (Some header) rest = payload_of header rest

-- the first line feed stands at this place; a line of a frame has fewer bytes than the limit
abbrev pub cut_at : Option ℕ → List ℕ → FrameCut
cut_at None bytes = if nat_lt (length bytes) MOST_HEADER then part else no_frame
cut_at (Some end) bytes = if nat_lt end MOST_HEADER then headed_by (header_of (take end bytes)) (drop (end + 1) bytes) else no_frame

abbrev pub cut_of : List ℕ → FrameCut
cut_of bytes = cut_at (position (λ c. c == 10) bytes) bytes
