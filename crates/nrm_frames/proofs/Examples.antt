-- Lines and their headers, bytes and their frames, and frames that are written.
use Rattle.std.specs.Prelude.{◌≡◌, [], ◌∷◌, ◌++◌, codes, map, refl, replicate, Some, None, true}
use Rattle.std.specs.Fmt.{digits}
use Rattle.nrm_frames.specs.Cutting.{cut_of, no_frame, part, whole}
use Rattle.nrm_frames.specs.Frames.{AreFrames}
use Rattle.nrm_frames.specs.Headers.{header_of, no_rights, rights_in, size_of}
use Rattle.nrm_frames.specs.Outgoing.{close, differs, keep, no_row, output_text, ready, send, why_word}
use Rattle.nrm_frames.specs.declared.header.Header.TheVariants as header
use Rattle.nrm_frames.specs.declared.why.Why.TheVariants as why

-- ---- each kind of header
again : header_of (codes "again 65536") ≡ Some (header.Again 65536)
again = refl

opens : header_of (codes "open 9999 DESK-1 look") ≡ Some (header.Open 9999 (codes "DESK-1") (record no_rights { look = true }))
opens = refl

came : header_of (codes "came 0 12") ≡ Some (header.Came 0 12)
came = refl

gone : header_of (codes "gone 7") ≡ Some (header.Gone 7)
gone = refl

kept : header_of (codes "kept") ≡ Some header.Kept
kept = refl

ends : header_of (codes "end") ≡ Some header.End
ends = refl

-- ---- lines that head no frame
no_words : header_of [] ≡ None
no_words = refl

two_spaces : header_of (codes "gone  7") ≡ None
two_spaces = refl

space_at_the_end : header_of (codes "kept ") ≡ None
space_at_the_end = refl

carriage_return : header_of (codes "kept\r") ≡ None
carriage_return = refl

leading_zero : header_of (codes "gone 07") ≡ None
leading_zero = refl

place_too_great : header_of (codes "gone 10000") ≡ None
place_too_great = refl

size_too_great : header_of (codes "came 0 65537") ≡ None
size_too_great = refl

again_too_great : header_of (codes "again 65537") ≡ None
again_too_great = refl

small_letters : header_of (codes "open 1 desk look") ≡ None
small_letters = refl

unknown_right : header_of (codes "open 1 DESK sell") ≡ None
unknown_right = refl

five_words : header_of (codes "open 1 DESK look book") ≡ None
five_words = refl

one_word_more : header_of (codes "kept 1") ≡ None
one_word_more = refl

-- ---- rights
two_rights : rights_in (codes "book,cancel-own") ≡ Some (record no_rights { book = true; cancel_own = true })
two_rights = refl

all_rights : rights_in (codes "look,book,cancel-own,cancel-any,plan,greet")
    ≡ Some (record { look = true; book = true; cancel_own = true; cancel_any = true; plan = true; greet = true })
all_rights = refl

no_right : rights_in (codes "none") ≡ Some no_rights
no_right = refl

without_a_word : map rights_in ([] ∷ codes "book," ∷ codes ",book" ∷ codes "Book" ∷ codes "book,sell" ∷ [])
    ≡ None ∷ None ∷ None ∷ None ∷ None ∷ []
without_a_word = refl

-- ---- how many bytes come behind the line
sizes : map size_of (header.Again 5 ∷ header.Came 9 6 ∷ header.Open 9 (codes "DESK") no_rights ∷ header.Gone 9 ∷ header.Kept ∷ header.End ∷ [])
    ≡ 5 ∷ 6 ∷ 0 ∷ 0 ∷ 0 ∷ 0 ∷ []
sizes = refl

-- ---- the first frame of some bytes; a line feed in the payload ends nothing
with_payload : cut_of (codes "came 3 4\na\nbckept\n") ≡ whole (header.Came 3 4) (codes "a\nbc") (codes "kept\n")
with_payload = refl

without_payload : cut_of (codes "kept\nend\n") ≡ whole header.Kept [] (codes "end\n")
without_payload = refl

a_byte_short : cut_of (codes "came 3 4\nabc") ≡ part
a_byte_short = refl

nothing_yet : cut_of [] ≡ part
nothing_yet = refl

no_header : cut_of (codes "hello\nkept\n") ≡ no_frame
no_header = refl

a_line_that_may_end : cut_of (replicate 127 120) ≡ part
a_line_that_may_end = refl

a_line_too_long : cut_of (replicate 128 120) ≡ no_frame
a_line_too_long = refl

too_long_before_its_end : cut_of (replicate 128 120 ++ codes "\n") ≡ no_frame
too_long_before_its_end = refl

two_frames : AreFrames (codes "gone 2\ncame 3 2\nabken")
    (record { header = header.Gone 2; payload = [] } ∷ record { header = header.Came 3 2; payload = codes "ab" } ∷ []) (codes "ken")
two_frames = (codes "came 3 2\nabken", refl, (codes "ken", refl, refl))

-- ---- frames that are written
text_of_ready : output_text (ready 17) ≡ codes "ready 17\n"
unfolding digits
text_of_ready = refl

text_of_keep : output_text (keep (codes "1,2\n")) ≡ codes "keep 4\n1,2\n"
unfolding digits
text_of_keep = refl

text_of_send : output_text (send 3 9 (codes "ok 1\n")) ≡ codes "send 3 9 5\nok 1\n"
unfolding digits
text_of_send = refl

text_of_send_nothing : output_text (send 0 9 []) ≡ codes "send 0 9 0\n"
unfolding digits
text_of_send_nothing = refl

text_of_close : output_text (close 3 why.Window) ≡ codes "close 3 window\n"
unfolding digits
text_of_close = refl

text_of_no_row : output_text (no_row 5) ≡ codes "no row 5\n"
unfolding digits
text_of_no_row = refl

text_of_differs : output_text (differs 5) ≡ codes "differs 5\n"
unfolding digits
text_of_differs = refl

words : map why_word (why.Gone ∷ why.Elsewhere ∷ why.Long ∷ why.Window ∷ why.Sequence ∷ why.Old ∷ why.Desks ∷ why.Rows ∷ why.Memory ∷ [])
    ≡ codes "gone" ∷ codes "elsewhere" ∷ codes "long" ∷ codes "window" ∷ codes "sequence" ∷ codes "old" ∷ codes "desks" ∷ codes "rows"
    ∷ codes "memory" ∷ []
words = refl
