pub mod TestPrograms  -- the programs of the tests are within the limits
pub mod ProgramExamples  -- the programs of three networks, which a reader can check by hand
pub mod ReadingExamples  -- certificate files of a small network, worked: what is written, what is read, and each refusal
