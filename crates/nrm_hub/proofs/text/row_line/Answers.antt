-- Each field joins the row behind a tab.
use Rattle.std.proofs.Common.{ℕ, ◌≡◌, ◌∙◌, List, [], ◌∷◌, ◌++◌, ap, append_assoc}
use Rattle.std.specs.Prelude.{decimal}
use Rattle.nrm_session.specs.Answering.{reply_in}
use Rattle.nrm_session.specs.Replies.{text_of}
use Rattle.nrm_stream.specs.Commands.{command_text}
use Rattle.nrm_hub.proofs.text.row_line.Goals as goal

with-field : (old mid new before field : List ℕ) → old ≡ before → mid ≡ old ++ 9 ∷ [] → new ≡ mid ++ field → new ≡ before ++ 9 ∷ field
with-field old mid new before field is tab put =
    put ∙ ap (λ (m : List ℕ). m ++ field) (tab ∙ ap (λ (o : List ℕ). o ++ 9 ∷ []) is) ∙ append_assoc before (9 ∷ []) field

pub returns : goal.returns
returns c = λ control same.
    let number = c.push_u64.ensures.text ∙ ap (λ (start : List ℕ). start ++ decimal c.args.number) c.new-line.ensures.text in
    let desk = with-field _ _ _ _ c.args.desk.now number c.push_bytes.ensures.text c.push_name.ensures.text in
    let sequence = with-field _ _ _ _ (decimal c.args.sequence) desk c.push_bytes-2.ensures.text c.push_u64-2.ensures.text in
    let command = with-field _ _ _ _ (command_text c.args.command.now) sequence c.push_bytes-3.ensures.text c.push_to.ensures.text in
    with-field _ _ _ _ (text_of (reply_in control c.args.reply)) command c.push_bytes-4.ensures.text (c.push_reply.ensures control same)
