pub mod Closings  -- a program closes with one certificate, or is Large in one place, and never both
pub mod Walk  -- how far `solve` has walked on a program's path, and what each step of it and its end say
