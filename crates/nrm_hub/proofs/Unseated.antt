-- Clients that are to be closed, since another client is their desk.
use Rattle.std.proofs.Common.{ℕ, ◌≡◌, ◌≢◌, ◌∙◌, ◌+◌, ◌<◌, ◌≤◌, Bool, true, false, not, List, map, length, get_or, Option, Some, None, refl, sym, ap, subst, inl, inr, arith}
use Rattle.std.specs.Prelude.{◌&&◌, is_some, option_map, slice_set, if◌then◌else◌}
use Rattle.std.proofs.lemmas.Bool.{cases_eq, cases_lt}
use Rattle.std.proofs.lemmas.List.{ext_get_or, get_or-map, get_or-set_other, get_or-set_same, get_or_past, length-map, length-set, map-set, set-get_or, set-set}
use Rattle.nrm_frames.specs.declared.why.Why.TheVariants as why
use Rattle.nrm_hub.specs.Asked.{is_desk}
use Rattle.nrm_hub.specs.Clients.{ClientValue, closed_for}
use Rattle.nrm_hub.specs.Hub.{alone, seated_after, unseated}
use Rattle.nrm_hub.specs.Inner.Seats.{AreUnseated, UnseatsBeside}

-- it is as it was, or it is to be closed
pub unseated-so : (P : ClientValue → Type 0) (desk : ℕ) (c : ClientValue) → P c → P (closed_for c why.Elsewhere) → P (unseated desk c)
unseated-so P desk c stays goes = by (is_desk desk c.desk && not (is_some c.closing))
  where
    by : (b : Bool) → P (if b then closed_for c why.Elsewhere else c)
    by true = goes
    by false = stays

pub unseated-serial : (desk : ℕ) (c : ClientValue) → (unseated desk c).serial ≡ c.serial
unseated-serial desk c = unseated-so (λ (x : ClientValue). x.serial ≡ c.serial) desk c refl refl

pub unseated-desk : (desk : ℕ) (c : ClientValue) → (unseated desk c).desk ≡ c.desk
unseated-desk desk c = unseated-so (λ (x : ClientValue). x.desk ≡ c.desk) desk c refl refl

-- who is at a place afterwards was there
pub mapped-at : (f : ClientValue → ClientValue) (clients : List (Option ClientValue)) (place : ℕ)
    → get_or (map (option_map f) clients) place None ≡ option_map f (get_or clients place None)
mapped-at f clients place = elim (cases_lt place (length clients)) [
  | inl less ↦ get_or-map (option_map f) clients place None None less
  | inr past ↦ get_or_past (map (option_map f) clients) place None (subst (λ (n : ℕ). n ≤ place) (sym (length-map clients (option_map f))) past)
      ∙ ap (λ (o : Option ClientValue). option_map f o) (sym (get_or_past clients place None past))
]

mapped-some : (f : ClientValue → ClientValue) (o : Option ClientValue) (c : ClientValue) → option_map f o ≡ Some c
    → (b : ClientValue) × (o ≡ Some b) × (f b ≡ c)
mapped-some f None c is = absurd (cc)
mapped-some f (Some b) c is = (b, refl, cc)

pub was-at : (f : ClientValue → ClientValue) (clients : List (Option ClientValue)) (place : ℕ) (c : ClientValue)
    → get_or (map (option_map f) clients) place None ≡ Some c → (b : ClientValue) × (get_or clients place None ≡ Some b) × (f b ≡ c)
was-at f clients place c is = mapped-some f (get_or clients place None) c (sym (mapped-at f clients place) ∙ is)

-- nobody but the client at the place stays the desk
pub unseated-all : (old new : List (Option ClientValue)) (place desk : ℕ) (c : ClientValue) → get_or old place None ≡ Some c
    → AreUnseated old new place desk (length old) → new ≡ alone old place c (Some desk)
unseated-all old new place desk c there all =
    let mapped : List (Option ClientValue) = map (option_map (unseated desk)) old in
    let same : length mapped ≡ length old = length-map old (option_map (unseated desk)) in
    ext_get_or None new (slice_set mapped place (Some c)) (all.many ∙ sym same ∙ sym (length-set mapped place (Some c)))
    (λ i less. elim (cases_eq i place) [
      | inl e ↦
          let within : place < length mapped = omega (arith, less, all.many, same, e) in
          all.same i (inr e) ∙ ap (λ (k : ℕ). get_or old k None) e ∙ there ∙ sym (get_or-set_same mapped place (Some c) None within)
          ∙ ap (λ (k : ℕ). get_or (slice_set mapped place (Some c)) k None) (sym e)
      | inr e ↦ all.others i (omega (arith, less, all.many)) e ∙ sym (mapped-at (unseated desk) old i)
          ∙ sym (get_or-set_other mapped place i (Some c) None e)
    ])

-- P of each client is P of each one still, where one that is to be closed stays so
pub seated-so : (P : Option ClientValue → Type 0) (clients : List (Option ClientValue)) (place : ℕ) (was : Option ℕ) (c : ClientValue)
    → ((x : Option ClientValue) (desk : ℕ) → P x → P (option_map (unseated desk) x)) → P (Some c)
    → ((k : ℕ) → P (get_or clients k None)) → ((xs : List (Option ClientValue)) → ((k : ℕ) → P (get_or xs k None))
    → (k : ℕ) → P (get_or (slice_set xs place (Some c)) k None)) → (k : ℕ) → P (get_or (seated_after clients place was c) k None)
seated-so P clients place (Some d) c stays one all set = set clients all
seated-so P clients place None c stays one all set = by c.desk
  where
    by : (desk : Option ℕ) → (k : ℕ) → P (get_or (alone clients place c desk) k None)
    by None = set clients all
    by (Some desk) = set (map (option_map (unseated desk)) clients)
        (λ k. subst P (sym (mapped-at (unseated desk) clients k)) (stays (get_or clients k None) desk (all k)))

-- ---- one place after another
pub none-unseated : (clients : List (Option ClientValue)) (place desk : ℕ) → AreUnseated clients clients place desk 0
none-unseated clients place desk = record {
  many = refl;
  others = λ other less differ. absurd (omega (arith, less));
  same = λ other is. refl;
}

one-unseated : (old now new : List (Option ClientValue)) (place desk k : ℕ) → AreUnseated old now place desk k → k ≢ place → k < length now
    → new ≡ slice_set now k (option_map (unseated desk) (get_or now k None)) → AreUnseated old new place desk (k + 1)
one-unseated old now new place desk k so differ within is = record {
  many = ap (λ (xs : List (Option ClientValue)). length xs) is ∙ length-set now k (option_map (unseated desk) (get_or now k None)) ∙ so.many;
  others = λ other less apart. elim (cases_eq other k) [
    | inl e ↦ ap (λ (xs : List (Option ClientValue)). get_or xs other None) is
        ∙ ap (λ (j : ℕ). get_or (slice_set now k (option_map (unseated desk) (get_or now k None))) j None) e
        ∙ get_or-set_same now k (option_map (unseated desk) (get_or now k None)) None within
        ∙ ap (λ (o : Option ClientValue). option_map (unseated desk) o) (so.same k (inl (omega arith)))
        ∙ ap (λ (j : ℕ). option_map (unseated desk) (get_or old j None)) (sym e)
    | inr e ↦ ap (λ (xs : List (Option ClientValue)). get_or xs other None) is
        ∙ get_or-set_other now k other (option_map (unseated desk) (get_or now k None)) None e ∙ so.others other (omega (arith, less, e)) apart
  ];
  same = λ other is_same.
      let e : other ≢ k = elim is_same [
        | inl more ↦ λ e. omega (arith, more, e)
        | inr at ↦ λ e. differ (sym e ∙ at)
      ] in
      ap (λ (xs : List (Option ClientValue)). get_or xs other None) is
      ∙ get_or-set_other now k other (option_map (unseated desk) (get_or now k None)) None e
      ∙ so.same other (elim is_same [
        | inl more ↦ inl (omega (arith, more))
        | inr at ↦ inr at
      ]);
}

skip-unseated : (old now : List (Option ClientValue)) (place desk k : ℕ) → AreUnseated old now place desk k → k ≡ place
    → AreUnseated old now place desk (k + 1)
skip-unseated old now place desk k so is = record {
  many = so.many;
  others = λ other less apart. so.others other (omega (arith, less, apart, is)) apart;
  same = λ other is_same. so.same other (elim is_same [
    | inl more ↦ inl (omega (arith, more))
    | inr at ↦ inr at
  ]);
}

pub more-unseated : (old now new : List (Option ClientValue)) (place desk k : ℕ) → AreUnseated old now place desk k → k < length now
    → UnseatsBeside now new place desk k → AreUnseated old new place desk (k + 1)
more-unseated old now new place desk k so within beside = elim (cases_eq k place) [
  | inl e ↦ subst (λ (xs : List (Option ClientValue)). AreUnseated old xs place desk (k + 1)) (sym (beside.stays e)) (skip-unseated old now place desk k so e)
  | inr e ↦ one-unseated old now new place desk k so e within (beside.goes e)
]

-- ---- it is alone once more, and who is no desk is alone already
pub alone-none : (clients : List (Option ClientValue)) (place : ℕ) (c : ClientValue) → get_or clients place None ≡ Some c → clients ≡ alone clients place c None
alone-none clients place c there =
    sym (set-get_or clients place None) ∙ ap (λ (o : Option ClientValue). slice_set clients place o) there

pub alone-again : (clients : List (Option ClientValue)) (place : ℕ) (c : ClientValue) (desk : Option ℕ)
    → alone (slice_set clients place (Some c)) place c desk ≡ alone clients place c desk
alone-again clients place c None = set-set clients place (Some c) (Some c)
alone-again clients place c (Some d) =
    let f : Option ClientValue → Option ClientValue = option_map (unseated d) in
    ap (λ (xs : List (Option ClientValue)). slice_set xs place (Some c)) (map-set f clients place (Some c))
    ∙ set-set (map f clients) place (f (Some c)) (Some c)

pub seated-some : (clients : List (Option ClientValue)) (place : ℕ) (c : ClientValue) (was : Option ℕ) → is_some was ≡ true
    → seated_after clients place was c ≡ slice_set clients place (Some c)
seated-some clients place c None is = absurd (cc)
seated-some clients place c (Some d) is = refl
