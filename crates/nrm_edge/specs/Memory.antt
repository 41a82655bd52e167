-- A source, a sink and files in memory: what they hold, how their calls are cut, and which of them fail.
use Rattle.std.specs.Prelude.{◌-◌, ◌==◌, ◌||◌, ◌++◌, ℕ, Bool, List, [], ◌∷◌, length, take, drop, min, max, unwrap_or, slice_get, bytes_eq}
use Rattle.std.specs.Prelude.{Option, Some, None, if◌then◌else◌}
use Rattle.std.specs.List.{list_any}
use Rattle.nrm_edge.specs.Causes.{one_more, counted}

-- the bytes still to come, the most bytes that each take gives, the numbers of the takes that fail, and how many takes and faults
-- there were
pub record HeldSource : Type 0 where
  pub coming : List ℕ
  pub cuts : List ℕ
  pub failing : List ℕ
  pub takes : ℕ
  pub faults : ℕ

-- whether the next take fails: its number is among those that fail
abbrev pub fails_next : HeldSource → Bool
fails_next s = list_any (λ number. number == one_more s.takes) s.failing

-- how many bytes the next take gives to so much room: all that fit, and no more than its cut, but at least one where bytes are left
abbrev pub given_next : HeldSource → ℕ → ℕ
given_next s room = min (min (length s.coming) room) (max 1 (unwrap_or (slice_get s.cuts s.takes) room))

-- the source after a take that failed
abbrev pub after_failure : HeldSource → HeldSource
after_failure s = record s { takes = one_more s.takes; faults = one_more s.faults }

-- the source after a take that gave so many bytes
abbrev pub after_take : HeldSource → ℕ → HeldSource
after_take s given = record s { coming = drop given s.coming; takes = one_more s.takes }

-- the bytes that went out, the room for all of them, the most bytes that each put takes, the numbers of the puts that fail, and
-- how many puts and faults there were
pub record HeldSink : Type 0 where
  pub held : List ℕ
  pub room : ℕ
  pub cuts : List ℕ
  pub failing : List ℕ
  pub puts : ℕ
  pub faults : ℕ

-- the room that is left
abbrev pub left_in : HeldSink → ℕ
left_in s = s.room - length s.held

-- whether the next put fails: its number is among those that fail, or no room is left
abbrev pub refuses_next : HeldSink → Bool
refuses_next s = list_any (λ number. number == one_more s.puts) s.failing || (left_in s == 0)

-- how many bytes the next put takes of a piece: all that fit, and no more than its cut, but at least one
abbrev pub taken_next : HeldSink → ℕ → ℕ
taken_next s size = min (min size (left_in s)) (max 1 (unwrap_or (slice_get s.cuts s.puts) (left_in s)))

-- the sink after a put that failed
abbrev pub after_refusal : HeldSink → HeldSink
after_refusal s = record s { puts = one_more s.puts; faults = one_more s.faults }

-- the sink after a put that took so many bytes of a piece
abbrev pub after_put : HeldSink → List ℕ → ℕ → HeldSink
after_put s piece count = record s { held = s.held ++ take count piece; puts = one_more s.puts }

-- files as a list of names and bytes, the numbers of the fetches that fail, and how many fetches and faults there were
pub record HeldFiles : Type 0 where
  pub files : List (List ℕ × List ℕ)
  pub failing : List ℕ
  pub fetches : ℕ
  pub faults : ℕ

-- what stands under a name: the bytes of the first pair that has it
abbrev pub stored_under : List (List ℕ × List ℕ) → List ℕ → Option (List ℕ)
stored_under [] name = None
stored_under (pair ∷ more) name = if bytes_eq pair.0 name then Some pair.1 else stored_under more name

-- whether the next fetch fails: its number is among those that fail
abbrev pub fetch_fails : HeldFiles → Bool
fetch_fails s = list_any (λ number. number == one_more s.fetches) s.failing

-- the files after a fetch, which failed or did not
abbrev pub after_fetch : HeldFiles → HeldFiles
after_fetch s = record s { fetches = one_more s.fetches; faults = counted (fetch_fails s) s.faults }
