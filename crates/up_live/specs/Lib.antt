pub mod Origins
pub mod Others
pub mod Acts
pub mod Laws
pub mod Touring
pub mod Syncs
pub mod Courses
