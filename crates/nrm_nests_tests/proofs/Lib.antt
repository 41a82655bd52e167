pub mod ProtectionExamples  -- bucket fares and protections that a reader can check by hand
