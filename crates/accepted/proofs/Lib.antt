pub mod AcceptedLaws
pub mod EqualLaws
pub mod FollowLaws
pub mod WrongLaws
