pub mod Decimals  -- the digits of a number are a whole number, their value is that number, and how many they are
pub mod Examples  -- the definitions worked on texts that a reader can check by hand
pub mod FirstNames  -- the name before the first byte of a kind
pub mod Fractions  -- the fraction that two numbers give: its sign, its parts, and how long its text is
pub mod Padding  -- bytes with zeros behind them
pub mod Places  -- the first place of a byte that passes a test
pub mod ReadBack  -- numbers, names, fractions and words that are written are read back
pub mod Values  -- the value of digits, digit by digit
