-- Steps from one state of a walk to the next.
mod Queues
-- A walk over the queue; for callers, that a visited line is one of the graph's.
pub mod Walks
