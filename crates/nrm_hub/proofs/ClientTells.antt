-- What a line that is taken leaves of its client.
use Rattle.std.proofs.Common.{Option, ℕ, ◌≡◌, ◌∙◌, ◌+◌, List, [], ◌++◌, take, drop, refl, sym, ap, append_assoc, None}
use Rattle.std.proofs.lemmas.List.{take-append-drop}
use Rattle.nrm_frames.specs.declared.why.Why.{Why}
use Rattle.nrm_frames.specs.declared.why.Why.TheVariants as why
use Rattle.nrm_hub.specs.Clients.{ClientValue, Hears, after_line, closed_for, cut, joined_as, whole}
use Rattle.nrm_hub.specs.Desks.{IsFrontOf}
use Rattle.nrm_hub.specs.Lines.{How, at_line, denied_line}
use Rattle.nrm_hub.specs.Register.{RegisterValue}
use Rattle.nrm_hub.specs.Taking.{TakesLine, answers, greets, lacks_memory, may_not_greet, refuses, too_many}
use Rattle.nrm_session.specs.Replies.{memory, text_of}
use Rattle.nrm_hub.proofs.ClientAnswers.{front-self}

-- A text was to join what waits for a client, of which these bytes came: it is the same client, a front of the text joined, and the whole
-- of it unless the client is to be closed.
pub record Tells (number : ℕ) (told coming text : List ℕ) (new : ClientValue) : Type 0 where
  pub same : new.serial ≡ number
  pub front : IsFrontOf new.told (told ++ text)
  pub left : new.closing ≡ None → new.coming ≡ coming
  pub heard : new.closing ≡ None → new.told ≡ told ++ text

hears-tells : (old : ClientValue) (text : List ℕ) (new : ClientValue) → Hears old text new
    → Tells old.serial old.told old.coming text new
hears-tells old text _ whole = record {
  same = refl;
  front = front-self (old.told ++ text);
  left = λ e. refl;
  heard = λ e. refl;
}
hears-tells old text _ (cut count short) = record {
  same = refl;
  front = (
    drop count text,
    ap (λ (t : List ℕ). old.told ++ t) (sym (take-append-drop count text))
        ∙ sym (append_assoc old.told (take count text) (drop count text)),
  );
  left = λ e. absurd (cc);
  heard = λ e. absurd (cc);
}

-- it was refused
refused : (old : ClientValue) (reason : Why) → Tells old.serial old.told old.coming [] (closed_for old reason)
refused old reason = record {
  same = refl;
  front = ([], refl);
  left = λ e. absurd (cc);
  heard = λ e. absurd (cc);
}

pub takes-tells : {spare : Option ℕ} (r : RegisterValue) (c : ClientValue) (line rest : List ℕ) (r' : RegisterValue) (c' : ClientValue) (how : How)
    (text : List ℕ) → TakesLine spare r c line rest r' c' how text → Tells c.serial c.told rest text c'
takes-tells r c line rest _ _ _ _ (greets name number r' d n c' none is may joins next hears) =
    hears-tells (joined_as (after_line c line rest) d n) (at_line n) c' hears
takes-tells r c line rest _ _ _ _ (may_not_greet name number c' none is may hears) =
    hears-tells (after_line c line rest) denied_line c' hears
takes-tells r c line rest _ _ _ _ (lacks_memory c' none new hears) = hears-tells (after_line c line rest) (text_of memory) c' hears
takes-tells r c line rest _ _ _ _ (too_many none new many full) = refused (after_line c line rest) why.Desks
takes-tells r c line rest _ _ _ _ (answers d r' c' how text is_desk answered hears) =
    hears-tells (record (after_line c line rest) { number = c.number + 1 }) text c' hears
takes-tells r c line rest _ _ _ _ (refuses d reason is_desk unfit) = refused (after_line c line rest) reason
