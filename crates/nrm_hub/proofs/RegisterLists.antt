-- Lists of a register: a place that changes, a desk by its name, and rows one behind another.
use Rattle.std.proofs.Common.{ℕ, ◌≡◌, ◌∙◌, ◌+◌, ◌<◌, ◌==◌, suc, zero, Bool, true, false, cond, List, [], ◌∷◌, ◌++◌, All, length, get_or, set, map, drop, replicate}
use Rattle.std.proofs.Common.{◌≢◌, ◌⊎◌, Option, Some, None, bytes_eq, find, nat_lt, inl, inr, refl, sym, ap, ap₂, subst, arith, append_assoc, length-append}
use Rattle.std.specs.List.{position_from}
use Rattle.std.proofs.lemmas.Bool.{and_parts, cases_Bool, cases_lt, cond_both, eq-eqb, eqb-true, false≢true}
use Rattle.std.proofs.lemmas.Iterator.Adapters.{position_from-zero}
use Rattle.std.proofs.lemmas.List.{get_or_append_left, get_or_push}
use Rattle.std.proofs.lemmas.List.Elements.{All-drop, All-head, All-tail}
use Rattle.std.proofs.lemmas.List.Quantifiers.{position-Some}
use Rattle.std.proofs.lemmas.Slice.Eq.{bytes_eq-Decides}
use Rattle.nrm_stream.specs.declared.command.Command.{Command}
use Rattle.nrm_stream.specs.declared.command.Command.TheVariants as command
use Rattle.nrm_hub.specs.Lines.{is_same, row_under}
use Rattle.nrm_hub.specs.Register.{DeskValue, new_desk, trimmed}
use Rattle.nrm_hub.specs.Rows.{Entry, row_text, rows_text}
use Rattle.nrm_hub.specs.declared.limits.TheConstants.{MOST_HELD}
use Rattle.nrm_hub.specs.declared.row.Row.{Row}

-- ---- what holds at each place, and past the end
pub at-set : {X : Type 0} (P : X → Type 0) (none : X) (xs : List X) (i : ℕ) (y : X) → P y → ((k : ℕ) → P (get_or xs k none))
    → (k : ℕ) → P (get_or (set xs i y) k none)
at-set P none [] i y one all k = all k
at-set P none (x ∷ xs) zero y one all zero = one
at-set P none (x ∷ xs) zero y one all (suc k) = all (suc k)
at-set P none (x ∷ xs) (suc i) y one all zero = all zero
at-set P none (x ∷ xs) (suc i) y one all (suc k) = at-set P none xs i y one (λ j. all (suc j)) k

pub at-push : {X : Type 0} (P : X → Type 0) (none : X) (xs : List X) (y : X) → P y → ((k : ℕ) → P (get_or xs k none))
    → (k : ℕ) → P (get_or (xs ++ y ∷ []) k none)
at-push P none [] y one all zero = one
at-push P none [] y one all (suc k) = all k
at-push P none (x ∷ xs) y one all zero = all zero
at-push P none (x ∷ xs) y one all (suc k) = at-push P none xs y one (λ j. all (suc j)) k

-- each place goes on as this says, where one changes so
pub rel-set : {X : Type 0} (R : X → X → Type 0) (none : X) → ((x : X) → R x x) → (xs : List X) (i : ℕ) (y : X) → R (get_or xs i none) y
    → (k : ℕ) → R (get_or xs k none) (get_or (set xs i y) k none)
rel-set R none same [] i y one k = same none
rel-set R none same (x ∷ xs) zero y one zero = one
rel-set R none same (x ∷ xs) zero y one (suc k) = same (get_or xs k none)
rel-set R none same (x ∷ xs) (suc i) y one zero = same x
rel-set R none same (x ∷ xs) (suc i) y one (suc k) = rel-set R none same xs i y one k

-- places where nobody is
nones : {X : Type 0} (x : X) (n k : ℕ) → get_or (replicate n x) k x ≡ x
nones x zero k = refl
nones x (suc n) zero = refl
nones x (suc n) (suc k) = nones x n k

pub at-nones : {X : Type 0} (xs : List (Option X)) (n k : ℕ) → get_or (xs ++ replicate n None) k None ≡ get_or xs k None
at-nones [] n k = nones None n k
at-nones (x ∷ xs) n zero = refl
at-nones (x ∷ xs) n (suc k) = at-nones xs n k

pub set-nil : {X : Type 0} (xs : List X) (i : ℕ) (y : X) → set xs i y ≡ [] → xs ≡ []
set-nil [] i y none = refl
set-nil (x ∷ xs) zero y none = absurd (cc)
set-nil (x ∷ xs) (suc i) y none = absurd (cc)

pub front-nil : {X : Type 0} (xs ys : List X) → xs ++ ys ≡ [] → xs ≡ []
front-nil [] ys none = refl
front-nil (x ∷ xs) ys none = absurd (cc)

pub map-same : {X Y : Type 0} (f g : X → Y) (xs : List X) → All (λ x. f x ≡ g x) xs → map f xs ≡ map g xs
map-same f g [] all = refl
map-same {X} {Y} f g (x ∷ xs) all = ap₂ (λ (y : Y) (ys : List Y). y ∷ ys) (All-head (λ (x : X). f x ≡ g x) x xs all)
    (map-same f g xs (All-tail (λ (x : X). f x ≡ g x) x xs all))

-- ---- desks by their names
abbrev pub named : List ℕ → DeskValue → Bool
named name desk = bytes_eq desk.name name

pub named-set : (name : List ℕ) (desks : List DeskValue) (i k : ℕ) (new : DeskValue) → new.name ≡ (get_or desks i (new_desk [])).name
    → position_from (named name) k (set desks i new) ≡ position_from (named name) k desks
named-set name [] i k new same = refl
named-set name (x ∷ xs) zero k new same =
    ap (λ (n : List ℕ). cond (bytes_eq n name) (Some k) (position_from (named name) (k + 1) xs)) same
named-set name (x ∷ xs) (suc i) k new same =
    ap (λ (rest : Option ℕ). cond (bytes_eq x.name name) (Some k) rest) (named-set name xs i (k + 1) new same)

first-or : (b : Bool) (k d : ℕ) (rest more : Option ℕ) → (rest ≡ Some d → more ≡ Some d) → cond b (Some k) rest ≡ Some d
    → cond b (Some k) more ≡ Some d
first-or true k d rest more on found = found
first-or false k d rest more on found = on found

pub named-longer : (name : List ℕ) (desks more : List DeskValue) (k d : ℕ) → position_from (named name) k desks ≡ Some d
    → position_from (named name) k (desks ++ more) ≡ Some d
named-longer name [] more k d found = absurd (cc)
named-longer name (x ∷ xs) more k d found =
    first-or (bytes_eq x.name name) k d (position_from (named name) (k + 1) xs) (position_from (named name) (k + 1) (xs ++ more))
    (λ e. named-longer name xs more (k + 1) d e) found

new-or : (b : Bool) (k d : ℕ) (rest more : Option ℕ) → (rest ≡ None → more ≡ Some d) → cond b (Some k) rest ≡ None
    → cond b (Some k) more ≡ Some d
new-or true k d rest more on none = absurd (cc)
new-or false k d rest more on none = on none

pub named-new : (name : List ℕ) (desks : List DeskValue) (k : ℕ) → position_from (named name) k desks ≡ None
    → position_from (named name) k (desks ++ new_desk name ∷ []) ≡ Some (k + length desks)
named-new name [] k none =
    let same : k ≡ k + 0 = omega arith in
    ap (λ (b : Bool). cond b (Some k) None) ((bytes_eq-Decides name name).1 refl) ∙ ap (λ (n : ℕ). Some n) same
named-new name (x ∷ xs) k none =
    let same : k + 1 + length xs ≡ k + suc (length xs) = omega arith in
    new-or (bytes_eq x.name name) k (k + suc (length xs)) (position_from (named name) (k + 1) xs)
    (position_from (named name) (k + 1) (xs ++ new_desk name ∷ []))
    (λ e. named-new name xs (k + 1) e ∙ ap (λ (n : ℕ). Some n) same) none

-- the desk that is found is there, and has the name
pub named-at : (name : List ℕ) (desks : List DeskValue) (d : ℕ) → position_from (named name) 0 desks ≡ Some d
    → (d < length desks) × ((get_or desks d (new_desk [])).name ≡ name)
named-at name desks d found =
    let p = position-Some (named name) desks d (new_desk []) (position_from-zero (named name) desks ∙ found) in
    (p.0, (bytes_eq-Decides (get_or desks d (new_desk [])).name name).0 p.1)

-- each desk is found by its name, also when one more is there
abbrev pub EachIsFound : List DeskValue → Type 0
EachIsFound desks = (d : ℕ) → d < length desks → position_from (named (get_or desks d (new_desk [])).name) 0 desks ≡ Some d

pub found-pushed : (desks : List DeskValue) (name : List ℕ) → EachIsFound desks → position_from (named name) 0 desks ≡ None
    → EachIsFound (desks ++ new_desk name ∷ [])
found-pushed desks name each none d short =
    let more : List DeskValue = desks ++ new_desk name ∷ [] in
    let long : length more ≡ length desks + 1 = length-append desks (new_desk name ∷ []) in
    elim (cases_lt d (length desks)) [
      | inl less ↦ subst (λ (desk : DeskValue). position_from (named desk.name) 0 more ≡ Some d)
          (sym (get_or_append_left desks (new_desk name ∷ []) (new_desk []) d less))
          (named-longer (get_or desks d (new_desk [])).name desks (new_desk name ∷ []) 0 d (each d less))
      | inr from ↦
          let last : d ≡ length desks = omega (arith, long, short, from) in
          let zero_more : 0 + length desks ≡ length desks = omega arith in
          subst (λ (n : ℕ). position_from (named (get_or more n (new_desk [])).name) 0 more ≡ Some n) (sym last)
          (subst (λ (desk : DeskValue). position_from (named desk.name) 0 more ≡ Some (length desks))
          (sym (get_or_push desks (new_desk name) (new_desk []) (length desks) refl))
          (named-new name desks 0 none ∙ ap (λ (n : ℕ). Some n) zero_more))
    ]

-- ---- rows
pub rows-joined : (before : ℕ) (rows more : List Entry) → rows_text before (rows ++ more)
    ≡ rows_text before rows ++ rows_text (before + length rows) more
rows-joined before [] more =
    let same : before ≡ before + 0 = omega arith in
    ap (λ (n : ℕ). rows_text n more) same
rows-joined before (entry ∷ rows) more =
    let same : before + 1 + length rows ≡ before + suc (length rows) = omega arith in
    ap (λ (t : List ℕ). row_text (before + 1) entry.desk entry.sequence entry.command entry.reply ++ t)
    (rows-joined (before + 1) rows more ∙ ap (λ (n : ℕ). rows_text (before + 1) rows ++ rows_text n more) same)
    ∙ sym (append_assoc (row_text (before + 1) entry.desk entry.sequence entry.command entry.reply) (rows_text (before + 1) rows) (rows_text (before + suc (length rows)) more))

-- a row is one of these
abbrev pub IsAmong : Entry → List Entry → Type 0
IsAmong entry rows = (before : List Entry) × (after : List Entry) × (rows ≡ before ++ entry ∷ after)

pub among-longer : (entry : Entry) (rows more : List Entry) → IsAmong entry rows → IsAmong entry (rows ++ more)
among-longer entry rows more (before, after, is) =
    (before, after ++ more, ap (λ (l : List Entry). l ++ more) is ∙ append_assoc before (entry ∷ after) more)

pub among-last : (entry : Entry) (rows : List Entry) → IsAmong entry (rows ++ entry ∷ [])
among-last entry rows = (rows, [], refl)

-- ---- rows that a desk holds
pub all-trimmed : (P : Row → Type 0) (held : List Row) → All P held → All P (trimmed held)
all-trimmed P held all = cond_both (nat_lt (length held) (MOST_HELD + MOST_HELD)) held (drop MOST_HELD held) (λ (l : List Row). All P l)
    (λ e. all) (λ e. All-drop P MOST_HELD held all)

some-same : {X : Type 0} (x y : X) → Some x ≡ Some y → x ≡ y
some-same x y e = cc

pick : (P : Row → Type 0) (x row : Row) (n : ℕ) (rest : Option Row) (b : Bool) → (x.sequence == n) ≡ b → P x
    → (rest ≡ Some row → P row × (row.sequence ≡ n)) → cond b (Some x) rest ≡ Some row → P row × (row.sequence ≡ n)
pick P x row n rest true is one on found =
    subst (λ (r : Row). P r × (r.sequence ≡ n)) (some-same x row found) (one, eqb-true x.sequence n is)
pick P x row n rest false is one on found = on found

-- the row under a number is one of them, and has the number
pub row-found : (P : Row → Type 0) (held : List Row) (n : ℕ) (row : Row) → All P held → row_under held n ≡ Some row
    → P row × (row.sequence ≡ n)
row-found P [] n row all found = absurd (cc)
row-found P (x ∷ held) n row all found = pick P x row n (find (λ (r : Row). r.sequence == n) held) (x.sequence == n) refl
    (All-head P x held all) (λ e. row-found P held n row (All-tail P x held all) e) found

-- ---- commands that are the same
pub same-command : (one other : Command) → is_same one other ≡ true → one ≡ other
same-command (command.Book product party) (command.Book product' party') is =
    let both = and_parts (bytes_eq product product') (party == party') is in
    ap₂ (λ (name : List ℕ) (n : ℕ). command.Book name n) ((bytes_eq-Decides product product').0 both.0) (eqb-true party party' both.1)
same-command (command.Cancel number) (command.Cancel number') is = ap (λ (n : ℕ). command.Cancel n) (eqb-true number number' is)
same-command (command.Reoptimise period) (command.Reoptimise period') is = ap (λ (n : ℕ). command.Reoptimise n) (eqb-true period period' is)
same-command one other is = absurd (false≢true is)

-- a name that was found is there
pub none-found : {k : ℕ} → None ≡ Some k → ⊥
none-found same = absurd (cc)

pub nat_eq-cases : (a b : ℕ) → (a ≡ b) ⊎ (a ≢ b)
nat_eq-cases a b = elim (cases_Bool (a == b)) [
  | inl same ↦ inl (eqb-true a b same)
  | inr apart ↦ inr (λ same. false≢true (sym apart ∙ eq-eqb a b same))
]

-- ---- a desk with another name in the place of one
-- a name that is found elsewhere is found there still
past : (b : Bool) (j k : ℕ) (rest : Option ℕ) → k ≢ j → cond b (Some j) rest ≡ Some k → rest ≡ Some k
past true j k rest apart found =
    let same : Some j ≡ Some k = found in
    let one : j ≡ k = cc in
    absurd (apart (sym one))
past false j k rest apart found = found

pub named-elsewhere : (name : List ℕ) (desks : List DeskValue) (d j k : ℕ) (new : DeskValue) → bytes_eq new.name name ≡ false → k ≢ j + d
    → position_from (named name) j desks ≡ Some k → position_from (named name) j (set desks d new) ≡ Some k
named-elsewhere name [] d j k new apart other found = found
named-elsewhere name (x ∷ xs) zero j k new apart other found =
    ap (λ (b : Bool). cond b (Some j) (position_from (named name) (j + 1) xs)) apart
    ∙ past (bytes_eq x.name name) j k (position_from (named name) (j + 1) xs) (λ same. other (omega (arith, same))) found
named-elsewhere name (x ∷ xs) (suc d) j k new apart other found =
    first-or (bytes_eq x.name name) j k (position_from (named name) (j + 1) xs) (position_from (named name) (j + 1) (set xs d new))
    (λ e. named-elsewhere name xs d (j + 1) k new apart (λ same. other (omega (arith, same))) e) found

-- and the new name is found in the place
pub named-in-place : (name : List ℕ) (desks : List DeskValue) (d j : ℕ) → d < length desks → position_from (named name) j desks ≡ None
    → position_from (named name) j (set desks d (new_desk name)) ≡ Some (j + d)
named-in-place name [] d j within none = absurd (omega arith)
named-in-place name (x ∷ xs) zero j within none =
    ap (λ (b : Bool). cond b (Some j) (position_from (named name) (j + 1) xs)) ((bytes_eq-Decides name name).1 refl)
    ∙ ap (λ (n : ℕ). Some n) (omega arith)
named-in-place name (x ∷ xs) (suc d) j within none =
    let same : j + 1 + d ≡ j + suc d = omega arith in
    new-or (bytes_eq x.name name) j (j + suc d) (position_from (named name) (j + 1) xs)
    (position_from (named name) (j + 1) (set xs d (new_desk name)))
    (λ e. named-in-place name xs d (j + 1) (omega arith) e ∙ ap (λ (n : ℕ). Some n) same) none
