-- What a sink holds with the bytes that wait before it, where some of them go out and others come.
use Rattle.std.proofs.Common.{ℕ, List, Option, ◌+◌, ◌-◌, ◌++◌, take, drop, length, ap, sym, take-append-drop, ◌∙◌}
use Rattle.std.proofs.lemmas.List.{drop-drop, take_rest}
use Rattle.std.proofs.KnownBytes.{append_known-moved, Keeps-trans}
use Rattle.std.specs.Io.KnownBytes.{Appends, Keeps, append_known}

-- a front of what was left went out
pub sent-more : (a b c : Option (List ℕ)) (first bytes : List ℕ) (sent more : ℕ)
    → Keeps (append_known a first) (append_known b (drop sent bytes))
    → Appends b c (take more (take (length bytes - sent) (drop sent bytes)))
    → Keeps (append_known a first) (append_known c (drop (sent + more) bytes))
sent-more a b c first bytes sent more kept went =
    Keeps-trans (append_known a first) (append_known b (drop sent bytes)) (append_known c (drop (sent + more) bytes)) kept
    (append_known-moved b c (take more (drop sent bytes)) (drop (sent + more) bytes) (drop sent bytes) (rw (take_rest bytes sent) at went)
    (sym (take-append-drop more (drop sent bytes)) ∙ ap (λ l. take more (drop sent bytes) ++ l) (drop-drop more sent bytes)))
