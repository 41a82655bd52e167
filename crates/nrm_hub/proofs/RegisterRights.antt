-- A line beyond a client's rights changes nothing.
use Rattle.std.proofs.Common.{ℕ, ◌≡◌, ◌∙◌, ◌≤◌, Bool, true, false, List, Option, Some, None, refl, sym, subst, arith}
use Rattle.std.proofs.lemmas.Bool.{true≢false}
use Rattle.nrm_stream.specs.declared.command.Command.{Command}
use Rattle.nrm_hub.specs.Asked.{allows, asked_in}
use Rattle.nrm_hub.specs.Clients.{ClientValue}
use Rattle.nrm_hub.specs.Desks.{RightsHold, is_allowed}
use Rattle.nrm_hub.specs.Lines.{Answers, How, Refuses, asks, denied_line, greets_late, is_beyond, is_carried, is_denied, is_full, is_other, is_used, lacks, looks}
use Rattle.nrm_hub.specs.Lines.{may_not_ask, otherwise, repeats, runs_out}
use Rattle.nrm_hub.specs.Register.{RegisterValue}
use Rattle.nrm_hub.specs.Taking.{answers, greets, lacks_memory, may_greet, may_not_greet, name_by, refuses, too_many}
use Rattle.nrm_frames.specs.declared.why.Why.{Why}
use Rattle.nrm_hub.specs.declared.asked.Asked.{Asked}
use Rattle.nrm_hub.specs.declared.asked.Asked.TheVariants as asked
use Rattle.nrm_hub.specs.declared.limits.TheConstants.{LAST_SEQUENCE}

-- what is allowed of a line, by what is known of it
as-asked : (r : RegisterValue) (c : ClientValue) (desk desk' : Option ℕ) (what what' : Asked) (b : Bool) → desk ≡ desk' → what ≡ what'
    → is_allowed r c desk what ≡ b → is_allowed r c desk' what' ≡ b
as-asked r c desk desk' what what' b same asks_it is =
    subst (λ (x : Option ℕ). is_allowed r c x what' ≡ b) same (subst (λ (x : Asked). is_allowed r c desk x ≡ b) asks_it is)

both-ways : (b : Bool) → b ≡ false → b ≡ true → ⊥
both-ways b refused allowed = true≢false (sym allowed ∙ refused)

-- who may not greet has no name to become a desk by
no-name : (r : RegisterValue) (c : ClientValue) (what : Asked) (name : List ℕ) → is_allowed r c None what ≡ false → name_by c what ≡ Some name → ⊥
no-name r c (asked.Greeting given number) name refused by =
    let none : name_by c (asked.Greeting given number) ≡ None = rw refused refl in
    absurd (cc)
no-name r c (asked.Ask product) name refused by = true≢false refused
no-name r c (asked.Says command) name refused by = true≢false refused

module _ (r : RegisterValue) (c : ClientValue) (d : ℕ) (line : List ℕ) (refused : is_allowed r c (Some d) (asked_in line) ≡ false) where
  not-allowed : (k : Command) → asked_in line ≡ asked.Says k → allows c.rights r.owners d k ≡ true → ⊥
  not-allowed k is may =
      both-ways (allows c.rights r.owners d k) (as-asked r c (Some d) (Some d) (asked_in line) (asked.Says k) false refl is refused) may

  denied : (r' : RegisterValue) (how : How) (text : List ℕ) → Answers r c.rights d c.number line r' how text
      → (r' ≡ r) × (how ≡ otherwise) × (text ≡ denied_line)
  denied _ _ _ (greets_late name number is) =
      absurd (true≢false (as-asked r c (Some d) (Some d) (asked_in line) (asked.Greeting name number) false refl is refused))
  denied _ _ _ (asks name is may) =
      absurd (both-ways c.rights.look (as-asked r c (Some d) (Some d) (asked_in line) (asked.Ask name) false refl is refused) may)
  denied _ _ _ (may_not_ask name is may) = (refl, refl, refl)
  denied _ _ _ (is_denied k is may) = (refl, refl, refl)
  denied _ _ _ (is_carried k r' a is may changes above few carries) = absurd (not-allowed k is may)
  denied _ _ _ (runs_out k r' is may changes above few passes) = absurd (not-allowed k is may)
  denied _ _ _ (lacks k is may changes above few) = absurd (not-allowed k is may)
  denied _ _ _ (looks k r' reply is may changes passes) = absurd (not-allowed k is may)
  denied _ _ _ (repeats k row is may changes used under same) = absurd (not-allowed k is may)

  not-refused : (reason : Why) → c.number ≤ LAST_SEQUENCE → Refuses r c.rights d c.number line reason → ⊥
  not-refused _ within (is_beyond beyond) = omega (arith, within, beyond)
  not-refused _ within (is_other k row is may changes used under other) = not-allowed k is may
  not-refused _ within (is_used k is may changes used none) = not-allowed k is may
  not-refused _ within (is_full k is may changes above full) = not-allowed k is may

pub rights-hold : RightsHold
rights-hold spare r c line rest _ _ _ _ within refused (greets name number r' d n c' first is may joins n_is hears) =
    absurd (both-ways (may_greet c name) (as-asked r c c.desk None (asked_in line) (asked.Greeting name number) false first is refused) may)
rights-hold spare r c line rest _ _ _ _ within refused (may_not_greet name number c' first is may hears) = (refl, refl, refl)
rights-hold spare r c line rest _ _ _ _ within refused (lacks_memory c' first (name, by, new) hears) =
    absurd (no-name r c (asked_in line) name (as-asked r c c.desk None (asked_in line) (asked_in line) false first refl refused) by)
rights-hold spare r c line rest _ _ _ _ within refused (too_many first (name, by, new) many none) =
    absurd (no-name r c (asked_in line) name (as-asked r c c.desk None (asked_in line) (asked_in line) false first refl refused) by)
rights-hold spare r c line rest _ _ _ _ within refused (answers d r' c' how text is_desk told hears) =
    denied r c d line (as-asked r c c.desk (Some d) (asked_in line) (asked_in line) false is_desk refl refused) r' how text told
rights-hold spare r c line rest _ _ _ _ within refused (refuses d reason is_desk unfit) =
    absurd (not-refused r c d line (as-asked r c c.desk (Some d) (asked_in line) (asked_in line) false is_desk refl refused) reason within unfit)
