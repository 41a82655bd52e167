pub mod NoneFails  -- what the conditions after the shape say where none fails, and that none fails where an allocation and bid prices meet
pub mod PassesCertify  -- a certificate at which no condition fails shows what it should, and one that shows it fails none
pub mod NamedIsThere  -- a product or a leg that is named is one of the program's, or of the network's
pub mod SumSteps  -- the steps of the loops that add up loads and costs, and the sizes of what they add
pub mod LeastSearch  -- the steps of a search for the least number at which a test holds
pub mod Examples  -- the checker's verdicts worked: each condition failing first, with its least leg or product, and certificates that pass
pub mod LineWords  -- words of a line and of a fraction: too many of them, and words that are no name
pub mod TooFine  -- a number of the certificate is Large exactly where one is found on the way to it
pub mod ReadShape  -- what is read has the network's shape: a sheet keeps its lengths, and numbers that aren't Large are below the limit
pub mod ClosingLowest  -- a row of fractions over its least common denominator is in lowest terms, so the certificate of a closing is
pub mod SheetBack  -- the certificate of a full sheet, where the sheet has the shares and bid prices of a certificate in lowest terms, is that certificate
pub mod WrittenFractions  -- a line of a certificate that is written gives the fraction that it was written for
pub mod FilledSheet  -- the lines of a certificate, one after the other, fill a blank sheet
pub mod WrittenLines  -- the text of a certificate is cut into its lines, and isn't long
pub mod WrittenRead  -- the text of a certificate in lowest terms is read as that certificate
pub mod ReadAnswers  -- what is answered on the sheet that the lines give is what the file gives, and has its shape
