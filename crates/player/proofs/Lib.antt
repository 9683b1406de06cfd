pub mod Joined
pub mod JoinedProof
