use Rattle.std.proofs.Common.{List, ℕ, ◌≡◌, ◌++◌, ◌∷◌, [], ◌∙◌, sym, codes, decimal}
use Rattle.std.specs.List.{join_with_byte}
use Rattle.nrm_gen.specs.MadeCommands.{command_count}
use Rattle.nrm_findings.proofs.SummaryWords.{count-more, first-words}
use Rattle.nrm_findings.proofs.summary.line_of_counts.Goals as goal

pub returns-clause-text : goal.returns-clause-text
returns-clause-text c =
    let counts = c.args.counts.now in
    let made = codes "made" in
    let lines : List (List ℕ) = codes "lines" ∷ decimal command_count ∷ [] in
    let ok : List (List ℕ) = lines ++ codes "ok" ∷ decimal counts.sold ∷ [] in
    let no : List (List ℕ) = ok ++ codes "no" ∷ decimal counts.no_leg ∷ [] in
    let fare : List (List ℕ) = no ++ codes "fare" ∷ decimal counts.no_fare ∷ [] in
    let cancelled : List (List ℕ) = fare ++ codes "cancelled" ∷ decimal counts.cancelled ∷ [] in
    let unknown : List (List ℕ) = cancelled ++ codes "unknown" ∷ decimal counts.unknown ∷ [] in
    let legs : List (List ℕ) = unknown ++ codes "legs" ∷ decimal counts.legs ∷ [] in
    let optimised : List (List ℕ) = legs ++ codes "optimised" ∷ decimal counts.optimised ∷ [] in
    let first : c.of_bytes-line.result ≡ join_with_byte 32 (made ∷ lines) = c.of_bytes-line.ensures.text ∙ sym first-words in
    let e1 = count-more made lines (codes "ok") counts.sold c.from.result c.of_bytes-line.result c.push_count.new.self first c.push_count.ensures.text c.from.ensures in
    let e2 = count-more made ok (codes "no") counts.no_leg c.from-2.result c.push_count.new.self c.push_count-2.new.self e1 c.push_count-2.ensures.text c.from-2.ensures in
    let e3 = count-more made no (codes "fare") counts.no_fare c.from-3.result c.push_count-2.new.self c.push_count-3.new.self e2 c.push_count-3.ensures.text c.from-3.ensures in
    let e4 = count-more made fare (codes "cancelled") counts.cancelled c.from-4.result c.push_count-3.new.self c.push_count-4.new.self e3 c.push_count-4.ensures.text c.from-4.ensures in
    let e5 = count-more made cancelled (codes "unknown") counts.unknown c.from-5.result c.push_count-4.new.self c.push_count-5.new.self e4 c.push_count-5.ensures.text c.from-5.ensures in
    let e6 = count-more made unknown (codes "legs") counts.legs c.from-6.result c.push_count-5.new.self c.push_count-6.new.self e5 c.push_count-6.ensures.text c.from-6.ensures in
    let e7 = count-more made legs (codes "optimised") counts.optimised c.from-7.result c.push_count-6.new.self c.push_count-7.new.self e6 c.push_count-7.ensures.text c.from-7.ensures in
    count-more made optimised (codes "overflow") counts.overflow c.from-8.result c.push_count-7.new.self c.push_count-8.new.self e7 c.push_count-8.ensures.text c.from-8.ensures
