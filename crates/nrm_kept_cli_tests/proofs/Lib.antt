pub mod KeptExamples  -- rows, steps and runs by hand
