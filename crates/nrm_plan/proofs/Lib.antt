pub mod ProtectedList  -- the seats that are protected from each product on each leg, in one list
pub mod Looked  -- the protection above a product's bucket, as it is looked up
pub mod Plans  -- plans: that there is one, and only one, and that its bid prices are optimal
pub mod SeatlessPlans  -- the plans of two networks that differ in their physical seats alone
