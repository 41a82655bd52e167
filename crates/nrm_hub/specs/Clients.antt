-- Clients of the hub.
use Rattle.std.specs.Prelude.{ℕ, ◌+◌, ◌<◌, List, [], ◌++◌, length, take, Option, Some, None}
use Rattle.nrm_frames.specs.declared.rights.Rights.{Rights}
use Rattle.nrm_frames.specs.declared.why.Why.{Why}
use Rattle.nrm_frames.specs.declared.why.Why.TheVariants as why

-- Its serial number, the name that it was opened with, its rights, the number of its desk once it has one, that of its next line, the bytes that
-- came and were not used yet, those that wait to be told, how many of its own bytes were used since it was told last, and why it is to
-- be closed, if it is.
pub record ClientValue : Type 0 where
  pub serial : ℕ
  pub name : List ℕ
  pub rights : Rights
  pub desk : Option ℕ
  pub number : ℕ
  pub coming : List ℕ
  pub told : List ℕ
  pub used : ℕ
  pub closing : Option Why

abbrev pub new_client : ℕ → List ℕ → Rights → ClientValue
new_client serial name rights =
    record { serial = serial; name = name; rights = rights; desk = None; number = 1; coming = []; told = []; used = 0; closing = None }

-- more bytes came
abbrev pub with_piece : ClientValue → List ℕ → ClientValue
with_piece c piece = record c { coming = c.coming ++ piece }

-- it is to be closed: nothing of it is used any more
abbrev pub closed_for : ClientValue → Why → ClientValue
closed_for c reason = record c { coming = []; closing = Some reason }

-- it is a desk, whose next line has this number
abbrev pub joined_as : ClientValue → ℕ → ℕ → ClientValue
joined_as c desk number = record c { desk = Some desk; number = number }

-- a line of it was used, with its end, and what it has is what the rest says
abbrev pub after_line : ClientValue → List ℕ → List ℕ → ClientValue
after_line c line rest = record c { coming = rest; used = c.used + (length line + 1) }

-- what waits was sent
abbrev pub after_telling : ClientValue → ClientValue
after_telling c = record c { told = []; used = 0 }

-- A text joins what waits for it; or memory runs out for that: a front of the text joined, and it is to be closed.
pub data Hears (old : ClientValue) (text : List ℕ) : ClientValue → Type 0 where
  whole : Hears old text (record old { told = old.told ++ text })
  cut : (count : ℕ) → count < length text → Hears old text (closed_for (record old { told = old.told ++ take count text }) why.Memory)
