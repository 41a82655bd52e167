pub mod SessionExamples  -- lines answered on a small network, which a reader can check by hand
pub mod ReportExamples  -- the texts of a leg, of a plan and of its nests, worked by hand
