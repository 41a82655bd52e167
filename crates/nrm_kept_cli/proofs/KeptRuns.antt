-- Commands that were answered one after another with their bookings kept, and one of them that was cut.
use Rattle.std.proofs.Common.{ℕ, ◌≡◌, ◌∙◌, List, [], ◌∷◌, ◌++◌, refl, sym, ap, subst, append_assoc}
use Rattle.nrm_model.specs.Network.{NetworkValue}
use Rattle.nrm_control.specs.State.{SeatState}
use Rattle.nrm_control.specs.Standing.{ControlValue}
use Rattle.nrm_stream.specs.declared.command.Command.{Command}
use Rattle.nrm_session.specs.Clerks.{AreMeanings}
use Rattle.nrm_session.proofs.Answered.{cut-joined, cut-longer, writes-joined}
use Rattle.nrm_keeper.specs.declared.keeper.Keeper.{Ghosts}
use Rattle.nrm_kept_cli.specs.Inner.Keeping.{KeptRefines, KeptRefinesCut, StaysWithBook}
use Rattle.nrm_kept_cli.specs.Inner.Reading.{HoweverRead}
use Rattle.nrm_kept_cli.specs.Run.{KeptWrites, KeptWritesCut, count_after}
use Rattle.nrm_kept_cli.specs.Step.{KeptReply, KeptStep, told, store, kept_text}
use Rattle.nrm_edge.specs.Causes.{one_more}
use Rattle.nrm_kept_cli.proofs.Readings.{read-idle, read-joined}

-- the store's count goes on by further replies
pub count-append : (replies others : List KeptReply) (count : ℕ) → count_after (replies ++ others) count ≡ count_after others (count_after replies count)
count-append [] others count = refl
count-append (told reply ∷ replies) others count = count-append replies others count
count-append (store ∷ replies) others count = count-append replies others (one_more count)

-- a run goes on by another
kept-joined : (net : NetworkValue) (s mid s' : SeatState) (commands more : List Command) (output text : List ℕ) (a b c : ℕ)
    → KeptWrites net s commands output mid a b → KeptWrites net mid more text s' b c → KeptWrites net s (commands ++ more) (output ++ text) s' a c
kept-joined net s mid s' commands more output text a b c first rest = record {
  writes = writes-joined (KeptStep net) kept_text s mid s' commands more output text first.writes rest.writes;
  counted = rest.counted ∙ ap (count_after rest.writes.replies) first.counted ∙ sym (count-append first.writes.replies rest.writes.replies a);
}

-- and by one in which a reply was cut
kept-joined_cut : (net : NetworkValue) (s mid s' : SeatState) (commands more : List Command) (output text : List ℕ) (a b c : ℕ)
    → KeptWrites net s commands output mid a b → KeptWritesCut net mid more text s' b c → KeptWritesCut net s (commands ++ more) (output ++ text) s' a c
kept-joined_cut net s mid s' commands more output text a b c first rest = record {
  writes = cut-joined (KeptStep net) kept_text s mid s' commands more output text first.writes rest.writes;
  counted =
      let own : List KeptReply = rest.writes.replies ++ rest.writes.reply ∷ [] in
      rest.counted ∙ ap (count_after own) first.counted ∙ sym (count-append first.writes.replies own a)
      ∙ ap (λ (replies : List KeptReply). count_after replies a) (sym (append_assoc first.writes.replies rest.writes.replies (rest.writes.reply ∷ [])));
}

module _ {P : Type 0} (keeps : Ghosts P) where
  refines-nothing : (at : ControlValue × P) → KeptRefines keeps at at [] []
  refines-nothing at = record {
    network = refl;
    stays = read-idle keeps (StaysWithBook at.0 at.0) at.1 (λ rows are. are);
    run = λ s stands. (s, stands, record { writes = record { replies = []; run = refl; output = refl }; counted = refl });
  }

  module _ (old mid new : ControlValue × P) (commands more : List Command) (output text : List ℕ) (first : KeptRefines keeps old mid commands output) where
    both-stay : HoweverRead keeps (StaysWithBook mid.0 new.0) mid.1 new.1 → HoweverRead keeps (StaysWithBook old.0 new.0) old.1 new.1
    both-stay rest =
        read-joined keeps (StaysWithBook old.0 mid.0) (StaysWithBook mid.0 new.0) (StaysWithBook old.0 new.0) old.1 mid.1 new.1 (λ a b c stays further are. further (stays are)) first.stays rest

    refines-more : KeptRefines keeps mid new more text → KeptRefines keeps old new (commands ++ more) (output ++ text)
    refines-more rest = record {
      network = rest.network ∙ first.network;
      stays = both-stay rest.stays;
      run = λ s stands.
          let (m, stands_m, writes) = first.run s stands in
          let (s', stands', others) = rest.run m stands_m in (
            s',
            stands',
            kept-joined old.0.net s m s' commands more output text (keeps.faults old.1) (keeps.faults mid.1) (keeps.faults new.1) writes
                (subst (λ (net : NetworkValue). KeptWrites net m more text s' (keeps.faults mid.1) (keeps.faults new.1)) first.network others),
          );
    }

    refines-then_cut : KeptRefinesCut keeps mid new more text → KeptRefinesCut keeps old new (commands ++ more) (output ++ text)
    refines-then_cut rest = record {
      network = rest.network ∙ first.network;
      stays = both-stay rest.stays;
      run = λ s stands.
          let (m, stands_m, writes) = first.run s stands in
          let (s', stands', others) = rest.run m stands_m in (
            s',
            stands',
            kept-joined_cut old.0.net s m s' commands more output text (keeps.faults old.1) (keeps.faults mid.1) (keeps.faults new.1) writes
                (subst (λ (net : NetworkValue). KeptWritesCut net m more text s' (keeps.faults mid.1) (keeps.faults new.1)) first.network others),
          );
    }

  refines-behind : (old new : ControlValue × P) (commands more : List Command) (output : List ℕ) → KeptRefinesCut keeps old new commands output → KeptRefinesCut keeps old new (commands ++ more) output
  refines-behind old new commands more output cut = record {
    network = cut.network;
    stays = cut.stays;
    run = λ s stands.
        let (s', stands', writes) = cut.run s stands in
        (s', stands', record { writes = cut-longer (KeptStep old.0.net) kept_text s s' commands more output writes.writes; counted = writes.counted });
  }

  pub keeping-means : AreMeanings {V = ControlValue × P} (KeptRefines keeps) (KeptRefinesCut keeps)
  keeping-means = record {
    nothing = refines-nothing;
    more = refines-more;
    then_cut = refines-then_cut;
    behind = refines-behind;
  }
