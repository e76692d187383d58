pub mod KeyList
