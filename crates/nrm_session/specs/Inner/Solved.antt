-- The replies to lines that have a linear program solved, by what was answered: that memory ran out is told only if it did.
use Rattle.std.specs.Prelude.{ℕ, Option, Some, None, Result, Ok, Err}
use Rattle.nrm_simplex.specs.declared.fault.SolveFault.{SolveFault}
use Rattle.nrm_simplex.specs.declared.fault.SolveFault.TheVariants as fault
use Rattle.nrm_session.specs.declared.reply.Reply.{Reply}
use Rattle.nrm_session.specs.declared.reply.Reply.TheVariants as reply

-- no linear program was solved
abbrev pub reply_unsolved : SolveFault → Reply
reply_unsolved (fault.Overflow pivots number) = reply.Overflow
reply_unsolved fault.NoMemory = reply.Memory

-- a plan was made, with its mean value if it has one
abbrev pub reply_planned : Result (Option (ℕ × ℕ)) SolveFault → Reply
reply_planned (Ok (Some (num, den))) = reply.Optimised num den
reply_planned (Ok None) = reply.OptimisedNone
reply_planned (Err why) = reply_unsolved why

-- a value of hindsight was found
abbrev pub reply_looking_back : Result (ℕ × ℕ) SolveFault → ℕ → ℕ → Reply
reply_looking_back (Ok (num, den)) revenue withheld = reply.Hindsight num den revenue withheld
reply_looking_back (Err why) revenue withheld = reply_unsolved why
