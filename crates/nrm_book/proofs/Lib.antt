pub mod Sums  -- sums of sums, and what one number adds
pub mod Sold  -- the seats sold on a leg, booking by booking
pub mod Kept  -- what a sale and a cancellation keep
pub mod EmptyBooks  -- the inventory of a network, and the empty book of it
pub mod Revenues  -- the sums over the list: their bounds, and what one booking makes of the revenue
pub mod NumberSearch  -- the place of a number in a row of slots whose numbers rise, as a binary search finds it
pub mod CountChanges  -- a change on each leg of a product, and what it makes of the counts of a list of bookings
pub mod BookedCounts  -- the counts of the seats sold once a booking comes or goes
pub mod OnLeg  -- the products that use a leg, from one to the next, and the seats sold of each
pub mod Rows  -- a row of slots, and the bookings that stand in it
