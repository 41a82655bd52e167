pub mod Examples  -- values and protections of four legs, policies and seasons by hand
pub mod Filling  -- one row of the table more, and how large its numbers are
pub mod OneClass  -- the best number to sell to one class is what is left above a threshold
pub mod Order  -- products by falling fare, and one more
pub mod Seasons  -- what a policy earns is a sum over seasons, and to remember gains nothing
pub mod Values  -- differences fall, no policy earns more, and the policy by protections earns all
