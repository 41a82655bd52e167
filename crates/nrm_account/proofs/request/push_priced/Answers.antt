-- The bid prices of the certificate are numbers below the limit.
use Rattle.std.proofs.Common.{get_or, length}
use Rattle.nrm_fraction.specs.Large.{size_limit}
use Rattle.nrm_lp.specs.Certified.{sizes}
use Rattle.nrm_virtual.proofs.Prices.{price-at}
use Rattle.nrm_account.proofs.request.push_priced.Goals as goal

pub price_sum-requires-clause-prices : goal.price_sum-requires-clause-prices
price_sum-requires-clause-prices c = λ i d short.
    let cert = c.args.cert.now in
    let (is, below) = price-at size_limit (length c.args.net.now.legs) cert c.requires.prices i d short in
    (get_or (sizes cert.p) i 0, is, below)
