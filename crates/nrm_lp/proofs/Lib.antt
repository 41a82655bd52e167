pub mod Pivot  -- a pivot keeps unit columns, the value row and the solutions, over tables as functions
pub mod Leaving  -- a leaving row exists, and no two rows tie: from the facts of `Pivot` alone
pub mod Duality  -- weak duality: no allocation gains more than any prices cost
pub mod PathExamples  -- an example of a path: the pivots of a program of two legs and five products
pub mod Tables  -- a tableau's lists read as a table, and that the list pivot is the pivot of `Pivot`
pub mod Rule  -- the leaving rule finds a row, strictly the least, and the pivot on it keeps all that is known of a path's tableau
pub mod Closing  -- the last tableau: the products' values are feasible, the slack entries of the value row are prices, and the two meet
pub mod Optimal  -- the closing of the last tableau is an allocation and prices of the program, and its gain meets its cost
pub mod Path  -- what is known of each tableau of a path, and that the closing of its last one is optimal
pub mod Measure  -- the measure of a path: a list of fractions below a limit as one whole number, which rises where the list does
pub mod Rising  -- at each pivot of a path the value row's number rises, where no row made is Large: so a path of such rows ends
pub mod Slackness  -- where gain and cost meet, each inequality on the way is an equality: both kinds of slackness
pub mod OverflowExamples  -- examples of the order in which the numbers of a pivot and of a closing are asked
pub mod Meeting  -- where a path ends, its closing is an allocation and prices that meet, with both kinds of slackness
pub mod Small  -- what isn't Large in the value row and in the closing bounds every number of the closing's certificate
pub mod Certify  -- the certificate of a path that ends and isn't Large has numbers below the limit, and shows what it should
pub mod Audited  -- where one allocation and its prices meet, each optimal pair does
pub mod Ends  -- the path of every program ends: each pivot that isn't Large raises the measure, which stays below a bound
pub mod Fits  -- the limits of a program as a test that computes, for programs that are written down
pub mod Named  -- whether a list of legs names one
pub mod CertificateExamples  -- a certificate that a reader can work out: two products and two legs, over five histories
pub mod Facts  -- the facts of a path's tableaux, from those that each pivot keeps
pub mod Positive  -- a pivot by the leaving rule keeps each row's list positive, and the value row's list rises
pub mod Sizes  -- the sizes of numbers below a limit
