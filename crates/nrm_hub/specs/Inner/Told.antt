-- Ends of the line that says how many seats could be had.
use Rattle.std.specs.Prelude.{ℕ, List, [], ◌∷◌, ◌++◌, decimal, flat_map}
use Rattle.nrm_text.specs.Words.{spaced}
use Rattle.nrm_account.specs.Largest.{beyond, largest_party}
use Rattle.nrm_control.specs.Standing.{ControlValue}
use Rattle.nrm_session.specs.Replies.{Reply}
use Rattle.nrm_hub.specs.Lines.{bound_words}

-- what bounds a party, each word behind a space, and the end of the line
abbrev pub bound_text : Reply → List ℕ
bound_text reply = flat_map spaced (bound_words reply) ++ 10 ∷ []

abbrev pub available_text : ControlValue → ℕ → List ℕ
available_text control product =
    let party = largest_party control.net control.plan control.bookings product in
    spaced (decimal party) ++ bound_text (beyond control.net control.plan control.bookings control.next product party)
