pub mod Worlds  -- how a world that was served goes on
pub mod Rooms  -- bytes of which no whole frame waits are fewer than there is room for
pub mod Ending  -- how a call ends, out of how its parts went
pub mod Buffers  -- bytes in a buffer: what waits is moved to its front, and more come behind
pub mod Serves  -- how frames are served, one after another
pub mod Frames  -- what is done with a frame, by what the hub did and what was put
pub mod Examples  -- statuses, words and frames that may not come, which a reader can check by hand
