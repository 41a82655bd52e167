-- A line is looked for at the front alone.
use Rattle.std.proofs.Common.{ℕ, inr, ◌≡◌, ◌∙◌, ◌-◌, ◌≤◌, ◌==◌, List, None, Some, ap, arith, drop, false, length, length-drop, refl, subst, sym, take}
use Rattle.std.specs.Prelude.{All, position}
use Rattle.nrm_hub.specs.Clients.{ClientValue}
use Rattle.nrm_hub.specs.Inner.Taking.{Takes, line, nothing, too_long}
use Rattle.nrm_hub.specs.declared.limits.TheConstants.{MOST_LINE}
use Rattle.nrm_hub.proofs.ClientLines.{front-place, no-line, none-passes, takes-seated, took-line}
use Rattle.nrm_hub.proofs.client.Client.use_next.Goals as goal

pub returns-then-self-gt-MOST_USED-clause-takes : goal.returns-then-self-gt-MOST_USED-clause-takes
returns-then-self-gt-MOST_USED-clause-takes c = nothing

-- what was looked at
front : (start n : ℕ) (bytes read got coming : List ℕ) → got ≡ take n (drop start read) → read ≡ bytes → drop start bytes ≡ coming → got ≡ take n coming
front start n bytes read got coming cut same is = cut ∙ ap (λ (b : List ℕ). take n (drop start b)) same ∙ ap (λ (b : List ℕ). take n b) is

place : (start n : ℕ) (bytes read got coming : List ℕ) (at : _) → got ≡ take n (drop start read) → read ≡ bytes → drop start bytes ≡ coming
    → at ≡ position (λ c. c == 10) got → position (λ c. c == 10) (take n coming) ≡ at
place start n bytes read got coming at cut same is found =
    sym (found ∙ ap (λ (b : List ℕ). position (λ c. c == 10) b) (front start n bytes read got coming cut same is))

pub answer_at-requires-clause-end : goal.answer_at-requires-clause-end
answer_at-requires-clause-end c =
    let coming : List ℕ = c.args.self.now.coming in
    (front-place (λ c. c == 10) coming c.min.result c.in-Some.end
    (place c.self.inside.start c.min.result c.self.inside.bytes.items c.deref.result.now c.part.result.now coming (Some c.in-Some.end) c.part.ensures
    c.deref.ensures.value (ap (λ (x : ClientValue). x.coming) c.self.view_is) c.in-Some.ensures)).0

takes-now : (c : goal.After-answer_at) → Takes c.args.spare c.args.register.now c.args.self.now c.answer_at.new.register c.answer_at.new.self
takes-now c =
    let coming : List ℕ = c.args.self.now.coming in
    let ends = front-place (λ c. c == 10) coming c.min.result c.in-Some.end
    (place c.self.inside.start c.min.result c.self.inside.bytes.items c.deref.result.now c.part.result.now coming (Some c.in-Some.end) c.part.ensures
    c.deref.ensures.value (ap (λ (x : ClientValue). x.coming) c.self.view_is) c.in-Some.ensures) in
    line c.in-Some.end c.answer_at.new.register c.answer_at.new.self ends.0 (omega (arith, ends.1, c.min.ensures)) c.answer_at.ensures.takes

pub returns-in-Some-clause-takes : goal.returns-in-Some-clause-takes
returns-in-Some-clause-takes c = takes-now c

pub returns-in-Some-clause-seated : goal.returns-in-Some-clause-seated
returns-in-Some-clause-seated c =
    (takes-seated c.args.register.now c.args.self.now c.answer_at.new.register c.answer_at.new.self (takes-now c) c.requires.spare c.requires.within).0

pub returns-in-Some-clause-grown : goal.returns-in-Some-clause-grown
returns-in-Some-clause-grown c =
    (takes-seated c.args.register.now c.args.self.now c.answer_at.new.register c.answer_at.new.self (takes-now c) c.requires.spare c.requires.within).1

pub returns-in-Some-clause-took : goal.returns-in-Some-clause-took
returns-in-Some-clause-took c =
    let coming : List ℕ = c.args.self.now.coming in
    let ends = front-place (λ c. c == 10) coming c.min.result c.in-Some.end
    (place c.self.inside.start c.min.result c.self.inside.bytes.items c.deref.result.now c.part.result.now coming (Some c.in-Some.end) c.part.ensures
    c.deref.ensures.value (ap (λ (x : ClientValue). x.coming) c.self.view_is) c.in-Some.ensures) in
    took-line c.args.register.now c.answer_at.new.register c.args.self.now c.answer_at.new.self c.in-Some.end c.answer_at.result ends.0
    (omega (arith, ends.1, c.min.ensures)) c.answer_at.ensures.takes c.answer_at.ensures.line

pub returns-in-None-clause-takes : goal.returns-in-None-clause-takes
returns-in-None-clause-takes c = nothing

pub returns-in-None-clause-took : goal.returns-in-None-clause-took
returns-in-None-clause-took c =
    let coming : List ℕ = c.args.self.now.coming in
    let is : drop c.self.inside.start c.self.inside.bytes.items ≡ coming = ap (λ (x : ClientValue). x.coming) c.self.view_is in
    let count : length coming ≡ length c.self.inside.bytes.items - c.self.inside.start =
    ap (λ (b : List ℕ). length b) (sym is) ∙ length-drop c.self.inside.start c.self.inside.bytes.items in
    let waits : c.min.result ≡ length coming =
    omega (arith, count, c.min.ensures, c.len.ensures, c.self.inside.bytes.ok.0, c.if-waiting-lt-MOST_LINE.true) in (
      refl,
      refl,
      inr (no-line c.args.self.now c.self.inside.start c.min.result c.self.inside.bytes.items c.deref.result.now c.part.result.now c.line_end.result
          c.part.ensures c.deref.ensures.value is waits (omega (arith, waits, count, c.len.ensures, c.self.inside.bytes.ok.0, c.if-waiting-lt-MOST_LINE.true))
          c.line_end.ensures c.in-None.is),
    )

long-now : (c : goal.After-close) → (MOST_LINE ≤ length c.args.self.now.coming) × All (λ byte. (byte == 10) ≡ false) (take MOST_LINE c.args.self.now.coming)
long-now c =
    let coming : List ℕ = c.args.self.now.coming in
    let is : drop c.self.inside.start c.self.inside.bytes.items ≡ coming = ap (λ (x : ClientValue). x.coming) c.self.view_is in
    let count : length coming ≡ length c.self.inside.bytes.items - c.self.inside.start =
    ap (λ (b : List ℕ). length b) (sym is) ∙ length-drop c.self.inside.start c.self.inside.bytes.items in
    let long : MOST_LINE ≤ length coming = omega (arith, count, c.len.ensures, c.self.inside.bytes.ok.0, c.if-waiting-lt-MOST_LINE.false) in
    let most : c.min.result ≡ MOST_LINE = omega (arith, c.min.ensures, c.len.ensures, c.if-waiting-lt-MOST_LINE.false) in
    let none : position (λ c. c == 10) (take c.min.result coming) ≡ None =
    place c.self.inside.start c.min.result c.self.inside.bytes.items c.deref.result.now c.part.result.now coming None c.part.ensures
    c.deref.ensures.value is c.in-None-2.ensures in
    (long, none-passes (λ c. c == 10) (take MOST_LINE coming) (subst (λ (n : ℕ). position (λ c. c == 10) (take n coming) ≡ None) most none))

pub returns-in-None-2-clause-takes : goal.returns-in-None-2-clause-takes
returns-in-None-2-clause-takes c =
    let (long, none) = long-now c in
    subst (λ (x : ClientValue). Takes c.args.spare c.args.register.now c.args.self.now c.args.register.now x) (sym c.close.ensures) (too_long long none)

pub returns-in-None-2-clause-took : goal.returns-in-None-2-clause-took
returns-in-None-2-clause-took c = let (long, none) = long-now c in (refl, c.close.ensures, long, none)
