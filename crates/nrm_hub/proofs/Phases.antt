-- What a step that answers no line does to what is awaited.
use Rattle.std.proofs.Common.{◌≡◌, ◌≢◌, ◌⊎◌, true, refl, inl, inr}
use Rattle.nrm_hub.specs.Hub.{after_closing, takes_frames, takes_lines}
use Rattle.nrm_hub.specs.declared.phase.Phase.{Phase}
use Rattle.nrm_hub.specs.declared.phase.Phase.TheVariants as phase

-- it leads to no word that is awaited, to no telling, and to no rows that are given again
pub record Follows (old new : Phase) : Type 0 where
  pub asked : new ≡ phase.Asked → old ≡ phase.Asked
  pub telling : new ≡ phase.Telling → old ≡ phase.Telling
  pub settled : new ≡ phase.Settled → (old ≡ phase.Settled) ⊎ ((old ≡ phase.Telling) ⊎ (old ≡ phase.Replaying))
  pub replaying : new ≢ phase.Replaying

pub frames-replayed : (p : Phase) → takes_frames p ≡ true → p ≢ phase.Replaying
frames-replayed p is same = absurd (cc)

pub lines-frames : (p : Phase) → takes_lines p ≡ true → takes_frames p ≡ true
lines-frames phase.Settled is = refl
lines-frames phase.Answering is = refl
lines-frames phase.Asked is = absurd (cc)
lines-frames phase.Replaying is = absurd (cc)
lines-frames phase.Telling is = absurd (cc)
lines-frames phase.Ended is = absurd (cc)

-- lines were answered, or somebody is to be closed
pub lines-answering : (p : Phase) → takes_lines p ≡ true → p ≢ phase.Settled → p ≡ phase.Answering
lines-answering phase.Settled is unsettled = absurd (unsettled refl)
lines-answering phase.Answering is unsettled = refl
lines-answering phase.Asked is unsettled = absurd (cc)
lines-answering phase.Replaying is unsettled = absurd (cc)
lines-answering phase.Telling is unsettled = absurd (cc)
lines-answering phase.Ended is unsettled = absurd (cc)

pub telling-unreplayed : (p : Phase) → p ≡ phase.Telling → p ≢ phase.Replaying
telling-unreplayed p is same = absurd (cc)

pub telling-unsettled : (p : Phase) → p ≡ phase.Telling → p ≢ phase.Settled
telling-unsettled p is same = absurd (cc)

pub follows-same : (p : Phase) → p ≢ phase.Replaying → Follows p p
follows-same p replayed = record { asked = λ e. e; telling = λ e. e; settled = λ e. inl e; replaying = replayed }

pub follows-telling : (p : Phase) → p ≡ phase.Telling → Follows p p
follows-telling p is = follows-same p (λ e. absurd (cc))

pub follows-closing : (p : Phase) → takes_frames p ≡ true → Follows p (after_closing p)
follows-closing phase.Settled is =
    record { asked = λ e. absurd (cc); telling = λ e. absurd (cc); settled = λ e. absurd (cc); replaying = λ e. absurd (cc) }
follows-closing phase.Answering is = follows-same phase.Answering (λ e. absurd (cc))
follows-closing phase.Asked is = follows-same phase.Asked (λ e. absurd (cc))
follows-closing phase.Replaying is = absurd (cc)
follows-closing phase.Telling is = absurd (cc)
follows-closing phase.Ended is = absurd (cc)

-- nobody is to be closed where all were told
pub closing-unsettled : (p : Phase) → after_closing p ≡ phase.Settled → ⊥
closing-unsettled phase.Settled is = absurd (cc)
closing-unsettled phase.Answering is = absurd (cc)
closing-unsettled phase.Asked is = absurd (cc)
closing-unsettled phase.Replaying is = absurd (cc)
closing-unsettled phase.Telling is = absurd (cc)
closing-unsettled phase.Ended is = absurd (cc)

pub follows-settled : (p : Phase) → (p ≡ phase.Telling) ⊎ (p ≡ phase.Replaying) → Follows p phase.Settled
follows-settled p was = record { asked = λ e. absurd (cc); telling = λ e. absurd (cc); settled = λ e. inr was; replaying = λ e. absurd (cc) }

pub follows-ended : (p : Phase) → Follows p phase.Ended
follows-ended p = record { asked = λ e. absurd (cc); telling = λ e. absurd (cc); settled = λ e. absurd (cc); replaying = λ e. absurd (cc) }
