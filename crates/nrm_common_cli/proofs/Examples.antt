-- The words for modes and for texts of the program itself, and the line of a linear program that is Large, worked by hand.
use Rattle.std.specs.Prelude.{◌≡◌, ◌++◌, [], ◌∷◌, map, codes, pos, negsuc, refl, Some, None}
use Rattle.std.specs.Fmt.{digits}
use Rattle.nrm_model.specs.declared.mode.Mode.TheVariants as mode
use Rattle.nrm_common_cli.specs.About.{question_of, text_of}
use Rattle.nrm_common_cli.specs.Words.{mode_of, overflow_line, told_pivots}
use Rattle.nrm_common_cli.specs.declared.about.Question.TheVariants as question
use Rattle.nrm_common_cli.specs.declared.about.TheConstants.{VERSION}

modes : map mode_of (codes "first" ∷ codes "bid" ∷ codes "davn" ∷ codes "fast" ∷ codes "bids" ∷ [] ∷ [])
    ≡ Some mode.FirstCome ∷ Some mode.Bid ∷ Some mode.Davn ∷ None ∷ None ∷ None ∷ []
modes = refl

-- one word asks for a text, and no other word or number of words
questions : map question_of ((codes "--help" ∷ []) ∷ (codes "--version" ∷ []) ∷ [] ∷ (codes "help" ∷ []) ∷ (codes "--help" ∷ codes "--help" ∷ []) ∷ [])
    ≡ Some question.Help ∷ Some question.Version ∷ None ∷ None ∷ None ∷ []
questions = refl

texts : map (text_of (codes "nrm_why") (codes "usage\n")) (question.Help ∷ question.Version ∷ [])
    ≡ codes "usage\n" ∷ (codes "nrm_why " ++ VERSION.now ++ codes "\n") ∷ []
texts = refl

-- the line of a linear program that is Large, with a sign before a negative number
line_of_overflow : overflow_line 64 (pos 399599996004000) ≡ codes "overflow after 64 pivots at 399599996004000\n"
unfolding digits
line_of_overflow = refl

line_of_a_negative_number : overflow_line 0 (negsuc 281474976710655) ≡ codes "overflow after 0 pivots at -281474976710656\n"
unfolding digits
line_of_a_negative_number = refl

most_pivots_told : map told_pivots (0 ∷ 4294967295 ∷ 4294967296 ∷ []) ≡ 0 ∷ 4294967295 ∷ 4294967295 ∷ []
most_pivots_told = refl
