-- The line was carried out, or memory ran out before it, or there are as many rows as there may be.
use Rattle.std.proofs.Common.{◌≤◌, ◌<◌, arith, refl, subst, sym}
use Rattle.nrm_session.specs.Answering.{reply_in}
use Rattle.nrm_session.specs.Replies.{memory, text_of}
use Rattle.nrm_hub.specs.Inner.Answered.{IsAnswered}
use Rattle.nrm_hub.specs.Lines.{is_full, lacks, otherwise}
use Rattle.nrm_hub.specs.Register.{RegisterValue}
use Rattle.nrm_hub.specs.declared.limits.TheConstants.{MOST_ROWS}
use Rattle.nrm_hub.proofs.LineAnswers.{answered-line, answers-carried, row-unless_memory}
use Rattle.nrm_hub.proofs.line.carry.Goals as goal

pub returns-then-rows-ge-MOST_ROWS : goal.returns-then-rows-ge-MOST_ROWS
returns-then-rows-ge-MOST_ROWS c = λ line says.
    let full : MOST_ROWS ≤ c.args.register.now.rows = omega (arith, c.rows.ensures.rows) in
    (is_full c.args.command.now says c.requires.allowed c.requires.changes c.requires.new full, refl, refl)

pub tell_carried-requires : goal.tell_carried-requires
tell_carried-requires c = record {
  tellable = c.in-Ok.ensures.tellable;
  of_row = row-unless_memory c.args.register.now c.carry.new.self c.args.asker.desk c.args.asker.sequence c.args.command.now c.in-Ok.reply
      c.in-Ok.ensures.carries;
}

pub returns-in-Err : goal.returns-in-Err
returns-in-Err c = λ line says.
    let r = c.args.register.now in
    let told = c.args.told.now.waiting in
    let room : r.rows < MOST_ROWS = omega (arith, c.rows.ensures.rows) in
    subst (λ (r' : RegisterValue). IsAnswered r r' c.args.asker.rights c.args.asker.desk c.args.asker.sequence line told
    c.tell.new.told.waiting c.tell.result) (sym c.in-Err.ensures.err)
    (answered-line r r c.args.asker.rights c.args.asker.desk c.args.asker.sequence line told c.tell.new.told.waiting otherwise (text_of memory)
    c.tell.result (lacks c.args.command.now says c.requires.allowed c.requires.changes c.requires.new room) c.tell.ensures)

pub returns-in-Ok : goal.returns-in-Ok
returns-in-Ok c = λ line says.
    let r = c.args.register.now in
    let room : r.rows < MOST_ROWS = omega (arith, c.rows.ensures.rows) in
    let (how, answers) = answers-carried r c.carry.new.self c.args.asker.rights c.args.asker.desk c.args.asker.sequence line c.args.command.now
    c.in-Ok.reply says c.requires.allowed c.requires.changes c.requires.new room c.in-Ok.ensures.carries in
    answered-line r c.carry.new.self c.args.asker.rights c.args.asker.desk c.args.asker.sequence line c.args.told.now.waiting
    c.tell_carried.new.told.waiting how (text_of (reply_in c.carry.new.self.control c.in-Ok.reply)) c.tell_carried.result answers
    c.tell_carried.ensures
