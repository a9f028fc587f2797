pub mod AmountsLaws
pub mod ChunksLaws
pub mod JoinLaws
pub mod LookingLaws
pub mod ZonesLaws
