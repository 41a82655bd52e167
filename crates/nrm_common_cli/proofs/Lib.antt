pub mod Networks
pub mod Opened  -- no count falls where a network file was opened
pub mod Examples  -- words, texts and the line of a program that is Large, worked by hand
