pub mod KeysLaws
pub mod StartingLaws
pub mod StrikingLaws
