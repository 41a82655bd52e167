pub mod Within  -- the sample networks are within the limits
