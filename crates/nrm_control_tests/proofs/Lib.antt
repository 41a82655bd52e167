pub mod BookExamples  -- seats left, by hand
pub mod PlanExamples  -- plans of two legs and five products by hand
pub mod ControlExamples  -- what a controller represents, and its verdicts, by hand
