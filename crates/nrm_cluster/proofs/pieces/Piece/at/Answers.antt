use Rattle.std.proofs.Common.{◌≡◌, ◌+◌, arith, ap}
use Rattle.nrm_cluster.proofs.pieces.Piece.at.Goals as goal

pub returns : goal.returns
returns c = λ p.
    let plain : c.args.start ≡ c.args.start + 0 = omega arith in
    ap (λ k. record {
      start = c.args.start;
      count = 0;
      whole = record { weight = 0; worth = 0 };
      middle = record { place = k; above = record { weight = 0; worth = 0 } };
      cost = 0;
    }) plain
