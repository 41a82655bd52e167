-- The places at which something is due, as clients change.
use Rattle.std.proofs.Common.{ℕ, ◌≡◌, ◌∙◌, ◌+◌, ◌<◌, ◌≤◌, ◌⊎◌, Bool, true, false, List, [], ◌∷◌, length, get_or, Option, Some, None, refl, sym, ap, subst, arith, inl, inr}
use Rattle.std.specs.Prelude.{Contains, map, option_map, slice_set, if◌then◌else◌}
use Rattle.std.proofs.lemmas.Bool.{cases_eq, cases_lt, false≢true}
use Rattle.std.proofs.lemmas.List.{get_or_default, get_or-set_other, get_or-set_same, length-map, length-set}
use Rattle.std.proofs.lemmas.List.Elements.{All-nil}
use Rattle.nrm_frames.specs.declared.limits.TheConstants.{LAST_PLACE}
use Rattle.nrm_frames.specs.declared.rights.Rights.{Rights}
use Rattle.nrm_hub.specs.Clients.{ClientValue, after_telling, new_client}
use Rattle.nrm_hub.specs.Due.{AreDue, DueValue, IsDue, StillDue, StillDueBeside, due_at, due_count, nothing_due}
use Rattle.nrm_hub.specs.Hub.{alone, unseated}
use Rattle.nrm_hub.specs.Inner.Seats.{AreListed, AreSo, HasPlaces, IsQuietAt, MakesSo, Only, OthersStay, WasClosed, WasSent}
use Rattle.nrm_hub.specs.Inner.Taking.{Came, joined, refused}
use Rattle.nrm_hub.specs.Waiting.{HadTurn, HasNoLine, IsAtRest, IsTold}
use Rattle.nrm_hub.proofs.ClientPlaces.{at-changed, at-longer}
use Rattle.nrm_hub.proofs.HubPlaces.{place-within}
use Rattle.nrm_hub.proofs.Unseated.{unseated-so, was-at}

-- ---- what is due
pub nothing-is-due : (place : ℕ) → IsDue nothing_due place → ⊥
nothing-is-due place (inl e) = false≢true e
nothing-is-due place (inr (k, short, is)) = omega (arith, short)

pub still-same : (due : DueValue) → StillDue due due
still-same due place is = is

-- one that is due is among those that are looked at
pub due-found : (due : DueValue) (place : ℕ) → place ≤ LAST_PLACE → IsDue due place → (at : ℕ) × (at < due_count due) × (due_at due at ≡ place)
due-found due place short is = by due.places due.is_all is
  where
    by : (places : List ℕ) (all : Bool) → (all ≡ true) ⊎ Contains places place
        → (at : ℕ) × (at < (if all then LAST_PLACE + 1 else length places)) × ((if all then at else get_or places at 0) ≡ place)
    by places true is = (place, omega (arith, short), refl)
    by places false (inl e) = absurd (false≢true e)
    by places false (inr (k, within, at)) = (k, within, get_or_default places k 0 place within ∙ at)

-- ---- clients change
-- what is due of a client stays so
lift : (due due' heard heard' : DueValue) (place : ℕ) (c : ClientValue) → (IsDue due place → IsDue due' place) → (IsDue heard place → IsDue heard' place)
    → IsDue heard place ⊎ (IsTold c × (IsDue due place ⊎ HasNoLine c)) → IsDue heard' place ⊎ (IsTold c × (IsDue due' place ⊎ HasNoLine c))
lift due due' heard heard' place c still more (inl is) = inl (more is)
lift due due' heard heard' place c still more (inr (told, inl is)) = inr (told, inl (still is))
lift due due' heard heard' place c still more (inr (told, inr none)) = inr (told, inr none)

pub still-beside : (place : ℕ) (due due' : DueValue) → StillDue due due' → StillDueBeside place due due'
still-beside place due due' still other differ is = still other is

-- a client is heard
pub set-heard : (clients : List (Option ClientValue)) (due due' heard heard' : DueValue) (place : ℕ) (x : Option ClientValue) → place < length clients
    → StillDueBeside place due due' → StillDue heard heard' → IsDue heard' place → AreDue clients due heard → AreDue (slice_set clients place x) due' heard'
set-heard clients due due' heard heard' place x within still more here are other c short is = elim (at-changed clients place other x c within is) [
  | inl (e, _) ↦ inl (subst (λ (p : ℕ). IsDue heard' p) (sym e) here)
  | inr (e, was) ↦ lift due due' heard heard' other c (still other e) (more other) (are other c short was)
]

-- and if no frame can name its place, it need not be
pub set-closed : (clients : List (Option ClientValue)) (due heard heard' : DueValue) (place : ℕ) (x : Option ClientValue) → place < length clients
    → StillDue heard heard' → (place ≤ LAST_PLACE → IsDue heard' place) → AreDue clients due heard → AreDue (slice_set clients place x) due heard'
set-closed clients due heard heard' place x within more here are other c short is = elim (at-changed clients place other x c within is) [
  | inl (e, _) ↦ inl (subst (λ (p : ℕ). IsDue heard' p) (sym e) (here (subst (λ (p : ℕ). p ≤ LAST_PLACE) e short)))
  | inr (e, was) ↦ lift due due heard heard' other c (λ is. is) (more other) (are other c short was)
]

-- nothing is due at a place any more
pub struck : (due : DueValue) (hint place nowhere : ℕ) (places : List ℕ) → hint < length due.places → get_or due.places hint place ≡ place
    → places ≡ slice_set due.places hint nowhere → StillDueBeside place due (record { places = places; is_all = due.is_all })
struck due hint place nowhere places short at is other differ (inl all) = inl all
struck due hint place nowhere places short at is other differ (inr (k, within, has)) = elim (cases_eq k hint) [
  | inl e ↦
      let same : get_or due.places hint place ≡ other = get_or_default due.places hint place other short ∙ subst (λ (n : ℕ). get_or due.places n other ≡ other) e has in
      absurd (differ (sym same ∙ at))
  | inr e ↦ inr (
    k,
    subst (λ (ps : List ℕ). k < length ps) (sym is) (omega (arith, within, length-set due.places hint nowhere)),
    ap (λ (ps : List ℕ). get_or ps k other) is ∙ get_or-set_other due.places hint k nowhere other e ∙ has,
  )
]

-- a piece came
came-told : (c c' : ClientValue) (piece : List ℕ) → Came c c' piece → c'.closing ≡ None → IsTold c → IsTold c'
came-told c c' piece (joined _ fits) whole told = record { told = told.told; used = told.used; stays = told.stays }
came-told c c' piece (refused _ reason much) whole told = absurd (cc)

pub set-came : (clients : List (Option ClientValue)) (due due' heard heard' : DueValue) (place : ℕ) (c c' : ClientValue) (piece : List ℕ)
    → get_or clients place None ≡ Some c → Came c c' piece → IsDue heard' place ⊎ ((c'.closing ≡ None) × IsDue due' place)
    → StillDueBeside place due due' → StillDue heard heard' → AreDue clients due heard → AreDue (slice_set clients place (Some c')) due' heard'
set-came clients due due' heard heard' place c c' piece there came listed still more are other d short is =
    elim (at-changed clients place other (Some c') d (place-within clients place c there) is) [
      | inl (e, same) ↦
          let at : IsDue heard' place ⊎ (IsTold c' × (IsDue due' place ⊎ HasNoLine c')) = elim listed [
            | inl is_heard ↦ inl is_heard
            | inr (whole, is_due) ↦ elim (are place c (subst (λ (p : ℕ). p ≤ LAST_PLACE) e short) there) [
              | inl is_heard ↦ inl (more place is_heard)
              | inr (told, _) ↦ inr (came-told c c' piece came whole told, inl is_due)
            ]
          ] in
          let same_client : c' ≡ d = cc in
          subst (λ (x : ClientValue). IsDue heard' other ⊎ (IsTold x × (IsDue due' other ⊎ HasNoLine x))) same_client
          (subst (λ (p : ℕ). IsDue heard' p ⊎ (IsTold c' × (IsDue due' p ⊎ HasNoLine c'))) (sym e) at)
      | inr (e, was) ↦ lift due due' heard heard' other d (still other e) (more other) (are other d short was)
    ]

-- what waited for a client was sent
pub set-sent : (clients : List (Option ClientValue)) (due heard : DueValue) (place : ℕ) (c : ClientValue) → get_or clients place None ≡ Some c
    → AreDue clients due heard → AreDue (slice_set clients place (Some (after_telling c))) due heard
set-sent clients due heard place c there are other d short is =
    elim (at-changed clients place other (Some (after_telling c)) d (place-within clients place c there) is) [
      | inl (e, same) ↦
          let at : IsDue heard place ⊎ (IsTold (after_telling c) × (IsDue due place ⊎ HasNoLine (after_telling c))) =
          elim (are place c (subst (λ (p : ℕ). p ≤ LAST_PLACE) e short) there) [
            | inl is_heard ↦ inl is_heard
            | inr (told, inl is_due) ↦ inr (record { told = refl; used = refl; stays = told.stays }, inl is_due)
            | inr (told, inr none) ↦
                inr (record { told = refl; used = refl; stays = told.stays }, inr (record { short = none.short; none = none.none }))
          ] in
          let same_client : after_telling c ≡ d = cc in
          subst (λ (x : ClientValue). IsDue heard other ⊎ (IsTold x × (IsDue due other ⊎ HasNoLine x))) same_client
          (subst (λ (p : ℕ). IsDue heard p ⊎ (IsTold (after_telling c) × (IsDue due p ⊎ HasNoLine (after_telling c)))) (sym e) at)
      | inr (e, was) ↦ are other d short was
    ]

-- a client is at rest, as a new one; or nobody is there
pub set-at-rest : (clients : List (Option ClientValue)) (due heard : DueValue) (place : ℕ) (c : ClientValue) → place < length clients → IsAtRest c
    → AreDue clients due heard → AreDue (slice_set clients place (Some c)) due heard
set-at-rest clients due heard place c within rests are other d short is = elim (at-changed clients place other (Some c) d within is) [
  | inl (e, same) ↦
      let same_client : c ≡ d = cc in
      subst (λ (x : ClientValue). IsDue heard other ⊎ (IsTold x × (IsDue due other ⊎ HasNoLine x))) same_client (inr (rests.told, inr rests.line))
  | inr (e, was) ↦ are other d short was
]

pub set-nobody : (clients : List (Option ClientValue)) (due heard : DueValue) (place : ℕ) → place < length clients → AreDue clients due heard
    → AreDue (slice_set clients place None) due heard
set-nobody clients due heard place within are other d short is = elim (at-changed clients place other None d within is) [
  | inl (e, same) ↦ absurd (cc)
  | inr (e, was) ↦ are other d short was
]

pub places-due : (clients new : List (Option ClientValue)) (due heard : DueValue) → HasPlaces clients new → AreDue clients due heard → AreDue new due heard
places-due clients new due heard (count, is) are other c short there =
    are other c short (at-longer clients count other c (subst (λ (cs : List (Option ClientValue)). get_or cs other None ≡ Some c) is there))

pub new-rests : (serial : ℕ) (name : List ℕ) (rights : Rights) → IsAtRest (new_client serial name rights)
new-rests serial name rights = record {
  told = record { told = refl; used = refl; stays = refl };
  line = record { short = omega arith; none = All-nil _ };
}

-- ---- from one list to another
abbrev pub Moved : List (Option ClientValue) → DueValue → DueValue → Type 0
Moved clients from to = (place : ℕ) → place ≤ LAST_PLACE → IsDue from place → IsQuietAt clients place ⊎ IsDue to place

pub begin-due : (clients : List (Option ClientValue)) (due heard heard' : DueValue) → Moved clients due heard' → StillDue heard heard'
    → AreDue clients due heard → AreDue clients nothing_due heard'
begin-due clients due heard heard' moved more are place c short there = elim (are place c short there) [
  | inl is_heard ↦ inl (more place is_heard)
  | inr (told, inl is_due) ↦ elim (moved place short is_due) [
    | inl quiet ↦ let rests = quiet c there in inr (rests.told, inr rests.line)
    | inr is_heard ↦ inl is_heard
  ]
  | inr (told, inr none) ↦ inr (told, inr none)
]

pub end-due : (clients : List (Option ClientValue)) (due due' heard : DueValue)
    → ((place : ℕ) (c : ClientValue) → place ≤ LAST_PLACE → get_or clients place None ≡ Some c → IsTold c)
    → Moved clients heard due' → StillDue due due' → AreDue clients due heard → AreDue clients due' nothing_due
end-due clients due due' heard told_all moved still are place c short there = elim (are place c short there) [
  | inl is_heard ↦ elim (moved place short is_heard) [
    | inl quiet ↦ let rests = quiet c there in inr (rests.told, inr rests.line)
    | inr is_due ↦ inr (told_all place c short there, inl is_due)
  ]
  | inr (told, inl is_due) ↦ inr (told, inl (still place is_due))
  | inr (told, inr none) ↦ inr (told, inr none)
]

-- the turn of more comes
pub more-due : (clients : List (Option ClientValue)) (due due' heard : DueValue) → StillDue due due' → AreDue clients due heard → AreDue clients due' heard
more-due clients due due' heard still are place c short there =
    lift due due' heard heard place c (still place) (λ is. is) (are place c short there)

pub listed-rest : (clients : List (Option ClientValue)) (heard listed : DueValue) → StillDue heard listed → AreDue clients nothing_due heard
    → AreListed IsAtRest clients listed
listed-rest clients heard listed copied are place c short there = elim (are place c short there) [
  | inl is_heard ↦ inr (copied place is_heard)
  | inr (told, inl never) ↦ absurd (nothing-is-due place never)
  | inr (told, inr none) ↦ inl (record { told = told; line = none })
]

pub listed-told : (clients : List (Option ClientValue)) (due heard listed : DueValue) → StillDue heard listed → AreDue clients due heard
    → AreListed IsTold clients listed
listed-told clients due heard listed copied are place c short there = elim (are place c short there) [
  | inl is_heard ↦ inr (copied place is_heard)
  | inr (told, _) ↦ inl told
]

-- ---- one place after another
pub only-same : (P : ClientValue → Type 0) (clients : List (Option ClientValue)) → Only P clients clients
only-same P clients place c there = inl there

pub only-then : (P : ClientValue → Type 0) (a b c : List (Option ClientValue)) → Only P a b → Only P b c → Only P a c
only-then P a b c first rest place d there = elim (rest place d there) [
  | inl was ↦ first place d was
  | inr so ↦ inr so
]

pub makes-then : (P : ClientValue → Type 0) (a b c : List (Option ClientValue)) (place : ℕ) → Only P a b → MakesSo P b c place → MakesSo P a c place
makes-then P a b c place first rest = record { so = rest.so; only = only-then P a b c first rest.only }

pub makes-on : (P : ClientValue → Type 0) (a b c : List (Option ClientValue)) (place : ℕ) → MakesSo P a b place → Only P b c → MakesSo P a c place
makes-on P a b c place first rest = record {
  so = λ d there. elim (rest place d there) [
    | inl was ↦ first.so d was
    | inr so ↦ so
  ];
  only = only-then P a b c first.only rest;
}

pub none-so : (P : ClientValue → Type 0) (clients : List (Option ClientValue)) (due : DueValue) → AreSo P clients clients due 0
none-so P clients due = record { only = only-same P clients; done = λ at c before. absurd (omega (arith, before)) }

pub one-more : (P : ClientValue → Type 0) (old now new : List (Option ClientValue)) (due : DueValue) (count place : ℕ) → place ≡ due_at due count
    → AreSo P old now due count → MakesSo P now new place → AreSo P old new due (count + 1)
one-more P old now new due count place is so more = record {
  only = only-then P old now new so.only more.only;
  done = λ at c before there. elim (cases_lt at count) [
    | inl less ↦ elim (more.only (due_at due at) c there) [
      | inl was ↦ so.done at c less was
      | inr is_so ↦ is_so
    ]
    | inr past ↦
        let same : at ≡ count = omega (arith, past, before) in
        more.so c (subst (λ (p : ℕ). get_or new p None ≡ Some c) (ap (λ (k : ℕ). due_at due k) same ∙ sym is) there)
  ];
}

pub all-so : (P Q : ClientValue → Type 0) (old now : List (Option ClientValue)) (due : DueValue) → ((c : ClientValue) → Q c → P c)
    → AreListed Q old due → AreSo P old now due (due_count due)
    → (place : ℕ) (c : ClientValue) → place ≤ LAST_PLACE → get_or now place None ≡ Some c → P c
all-so P Q old now due follows listed so place c short there = elim (so.only place c there) [
  | inl was ↦ elim (listed place c short was) [
    | inl is ↦ follows c is
    | inr is ↦
        let (at, before, same) = due-found due place short is in
        so.done at c before (subst (λ (p : ℕ). get_or now p None ≡ Some c) (sym same) there)
  ]
  | inr is ↦ is
]

pub rests-had : (c : ClientValue) → IsAtRest c → HadTurn c
rests-had c rests = inr (inr rests.line)

-- who was told, and had its turn while no line was used and nobody was to be closed, waits for nothing
pub had-rests : (c : ClientValue) → IsTold c → HadTurn c → IsAtRest c
had-rests c told (inl used) = let none : c.used ≡ 0 = told.used in absurd (omega (arith, used, none))
had-rests c told (inr (inl closing)) = absurd (closing told.stays)
had-rests c told (inr (inr line)) = record { told = told; line = line }

-- each is as it was, or perhaps to be closed
unseated-turn : (desk : ℕ) (c : ClientValue) → (unseated desk c ≡ c) ⊎ HadTurn (unseated desk c)
unseated-turn desk c = unseated-so (λ (x : ClientValue). (x ≡ c) ⊎ HadTurn x) desk c (inl refl) (inr (inr (inl (λ none. cc))))

pub alone-only : (clients : List (Option ClientValue)) (place : ℕ) (c : ClientValue) (desk : Option ℕ) → get_or clients place None ≡ Some c
    → Only HadTurn clients (alone clients place c desk)
alone-only clients place c None there other d is = elim (at-changed clients place other (Some c) d (place-within clients place c there) is) [
  | inl (e, same) ↦ inl (ap (λ (k : ℕ). get_or clients k None) e ∙ there ∙ same)
  | inr (e, was) ↦ inl was
]
alone-only clients place c (Some desk) there other d is =
    let mapped : List (Option ClientValue) = map (option_map (unseated desk)) clients in
    let within : place < length mapped =
    subst (λ (n : ℕ). place < n) (sym (length-map clients (option_map (unseated desk)))) (place-within clients place c there) in
    elim (at-changed mapped place other (Some c) d within is) [
      | inl (e, same) ↦ inl (ap (λ (k : ℕ). get_or clients k None) e ∙ there ∙ same)
      | inr (e, was) ↦
          let (b, before, is_b) = was-at (unseated desk) clients other d was in
          elim (unseated-turn desk b) [
            | inl same ↦ inl (before ∙ ap Some (sym same ∙ is_b))
            | inr had ↦ inr (subst HadTurn is_b had)
          ]
    ]

-- ---- sent, and closed
pub sent-as : (a a' b b' : List (Option ClientValue)) (place : ℕ) → a ≡ a' → a ≡ b' → WasSent a a place → WasSent a' b' place
sent-as a a' b b' place one other sent =
    subst (λ (cs : List (Option ClientValue)). WasSent cs b' place) one (subst (λ (cs : List (Option ClientValue)). WasSent a cs place) other sent)

pub sent-nobody : (clients : List (Option ClientValue)) (place : ℕ) → get_or clients place None ≡ None → WasSent clients clients place
sent-nobody clients place nobody = record { sent = λ c there. absurd (cc); others = λ other. inr refl }

pub none-waits : (xs : List ℕ) → length xs ≡ 0 → xs ≡ []
none-waits [] is = refl
none-waits (x ∷ xs) is = absurd (omega (arith, is))

pub sent-already : (clients : List (Option ClientValue)) (place : ℕ) (c : ClientValue) → get_or clients place None ≡ Some c → c.told ≡ [] → c.used ≡ 0
    → WasSent clients clients place
sent-already clients place c there told used = record {
  sent = λ d is.
      let same : c ≡ d = cc in
      (subst (λ (x : ClientValue). x.told ≡ []) same told, subst (λ (x : ClientValue). x.used ≡ 0) same used);
  others = λ other. inr refl;
}

others-stay : (clients : List (Option ClientValue)) (place : ℕ) (x : Option ClientValue) → OthersStay clients (slice_set clients place x) place
others-stay clients place x other = elim (cases_eq other place) [
  | inl e ↦ inl e
  | inr e ↦ inr (get_or-set_other clients place other x None e)
]

pub sent-now : (clients : List (Option ClientValue)) (place : ℕ) (c c' : ClientValue) → get_or clients place None ≡ Some c → c'.told ≡ [] → c'.used ≡ 0
    → WasSent clients (slice_set clients place (Some c')) place
sent-now clients place c c' there told used = record {
  sent = λ d is.
      let now : Some c' ≡ Some d = sym (get_or-set_same clients place (Some c') None (place-within clients place c there)) ∙ is in
      let same : c' ≡ d = cc in
      (subst (λ (x : ClientValue). x.told ≡ []) same told, subst (λ (x : ClientValue). x.used ≡ 0) same used);
  others = others-stay clients place (Some c');
}

pub closed-nobody : (clients : List (Option ClientValue)) (place : ℕ) → get_or clients place None ≡ None → WasClosed clients clients place
closed-nobody clients place nobody = record { left = λ c there. absurd (cc); others = λ other. inr refl }

pub closed-stays : (clients : List (Option ClientValue)) (place : ℕ) (c : ClientValue) → get_or clients place None ≡ Some c → c.closing ≡ None
    → WasClosed clients clients place
closed-stays clients place c there whole = record {
  left = λ d is. let same : c ≡ d = cc in (is, subst (λ (x : ClientValue). x.closing ≡ None) same whole);
  others = λ other. inr refl;
}

pub closed-now : (clients : List (Option ClientValue)) (place : ℕ) → place < length clients → WasClosed clients (slice_set clients place None) place
closed-now clients place within = record {
  left = λ d is. let now : None ≡ Some d = sym (get_or-set_same clients place None None within) ∙ is in absurd (cc);
  others = others-stay clients place None;
}

pub told-at : (a b c : List (Option ClientValue)) (place : ℕ) → WasSent a b place → WasClosed b c place → MakesSo IsTold a c place
told-at a b c place sent closed =
    let so : (d : ClientValue) → get_or c place None ≡ Some d → IsTold d = λ d there.
    let (was, whole) = closed.left d there in
    let (told, used) = sent.sent d was in
    record { told = told; used = used; stays = whole }
    in
    record {
      so = so;
      only = λ other d there. elim (closed.others other) [
        | inl e ↦ inr (so d (subst (λ (p : ℕ). get_or c p None ≡ Some d) e there))
        | inr same ↦ elim (sent.others other) [
          | inl e ↦ inr (so d (subst (λ (p : ℕ). get_or c p None ≡ Some d) e there))
          | inr as_before ↦ inl (sym as_before ∙ sym same ∙ there)
        ]
      ];
    }

-- the places at which something stays due
pub record StayDue (clients : List (Option ClientValue)) (due next : DueValue) (count : ℕ) : Type 0 where
  pub stay : (at : ℕ) → at < count → IsQuietAt clients (due_at due at) ⊎ IsDue next (due_at due at)

pub none-stay : (clients : List (Option ClientValue)) (due next : DueValue) → StayDue clients due next 0
none-stay clients due next = record { stay = λ at before. absurd (omega (arith, before)) }

pub one-stays : (clients : List (Option ClientValue)) (due next next' : DueValue) (count place : ℕ) → place ≡ due_at due count
    → StayDue clients due next count → StillDue next next' → IsQuietAt clients place ⊎ IsDue next' place → StayDue clients due next' (count + 1)
one-stays clients due next next' count place is so still here = record {
  stay = λ at before. elim (cases_lt at count) [
    | inl less ↦ elim (so.stay at less) [
      | inl quiet ↦ inl quiet
      | inr due_is ↦ inr (still (due_at due at) due_is)
    ]
    | inr past ↦
        let same : place ≡ due_at due at = is ∙ ap (λ (k : ℕ). due_at due k) (omega (arith, past, before)) in
        subst (λ (p : ℕ). IsQuietAt clients p ⊎ IsDue next' p) same here
  ];
}

pub all-stay : (clients : List (Option ClientValue)) (from to : DueValue) → StayDue clients from to (due_count from) → Moved clients from to
all-stay clients from to so place short is =
    let (at, before, same) = due-found from place short is in
    subst (λ (p : ℕ). IsQuietAt clients p ⊎ IsDue to p) same (so.stay at before)
